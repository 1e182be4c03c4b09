-- What a turn of a device engine does with the commands of its process.
use Rattle.std.proofs.Common.{◌≡◌, ℕ, true, false, List, ◌∷◌, length, Option, None, Some, refl, sym, ap, ◌∙◌, subst}
use Rattle.std.specs.Prelude.{nat_eq, All}
use Rattle.std.specs.FinMap as fin
use Rattle.std.proofs.lemmas.Bool.{eq-eqb, or_left}
use Rattle.std.proofs.lemmas.List.{append-nil, length-set}
use Rattle.std.proofs.lemmas.Option.{none-some, same_Some}
use Rattle.bd_base.specs.declared.journal.Found.{Found}
use Rattle.bd_base.specs.declared.key.Cell.{Cell}
use Rattle.bd_entry.specs.declared.entry.Entry.{Entry}
use Rattle.bd_entry.specs.declared.entry.Entry.TheVariants as entries
use Rattle.bd_entry.specs.Calls.{Place}
use Rattle.bd_entry.specs.Promises.{is_access_or_miss}
use Rattle.bd_entry.specs.Store.{Store}
use Rattle.bd_lines.specs.Lines.{hit}
use Rattle.bd_tables.specs.State.{found_entering, found_reading, lookup}
use Rattle.bd_turns.proofs.DoneTurns.{grown}
use Rattle.bd_turns.proofs.EngineCommands.{TellsAlone, given_all, given_back, given_commands, hand_of, phase_all, phase_commands, taken, taken_all, taken_commands, told_commands, with_phase}
use Rattle.bd_turns.proofs.LegalMoves.{moves_by}
use Rattle.bd_turns.specs.Engines.{Step, engine_step, move_entry, move_entry_of, phase_after, phase_looked}
use Rattle.bd_turns.specs.Sound.{AreCommands, has_told}
use Rattle.bd_turns.specs.State.{InHand, Looking, Reading, Filling, Moving, Missing, Retiring, Completing, Phase, Progress, State, outstanding, progress_of}
use Rattle.bd_turns.proofs.EngineSteps.{IsStep, completes, engine_steps, enters, fills, looks, misses, moves, reads, retires}

-- what the turn does: the oldest command is taken; the engine goes on with the one in its hand; it says what became of
-- it; or it gives it back
pub data StepDoes (p : Place) (progress : Progress) (step : Step) : Type 0 where
  takes : (number : ℕ) (rest : List ℕ) (phase : Phase) → progress.hand ≡ None → progress.submitted ≡ number ∷ rest → has_told phase ≡ false →
      step.progress ≡ taken progress number rest phase → step.entry ≡ None → StepDoes p progress step
  goes_on : (number : ℕ) (phase next : Phase) → progress.hand ≡ Some (hand_of number phase) → has_told next ≡ has_told phase →
      step.progress ≡ with_phase progress number next → step.entry ≡ None → StepDoes p progress step
  tells : (number : ℕ) (phase : Phase) (e : Entry) → progress.hand ≡ Some (hand_of number phase) →
      step.progress ≡ with_phase progress number Retiring → step.entry ≡ Some e → TellsAlone number e → is_access_or_miss e ≡ true →
      StepDoes p progress step
  gives : (number : ℕ) → progress.hand ≡ Some (hand_of number Completing) → step.progress ≡ given_back p progress number →
      step.entry ≡ None → StepDoes p progress step

-- and each engine keeps its walk
pub record IsEngineTurn (m : State) (p : Place) (step : Step) : Type 0 where
  pub does : StepDoes p (progress_of m p.at.process) step
  pub walks : length step.tables.walks ≡ length m.tables.walks

-- ---- phases

entering_untold : (found : Option Found) → has_told (phase_after found Looking) ≡ false
entering_untold None = refl
entering_untold (Some found) = refl

looking_untold : (cell : Option Cell) → has_told (phase_looked cell) ≡ false
looking_untold None = refl
looking_untold (Some cell) = refl

reading_untold : (found : Option Found) → has_told (phase_after found Filling) ≡ false
reading_untold None = refl
reading_untold (Some found) = refl

-- ---- entries

access_alone : (s : Store) (p : Place) (number block : ℕ) (e : Entry) → move_entry_of s p number block ≡ Some e →
    TellsAlone number e × (is_access_or_miss e ≡ true)
access_alone s p number block e is =
    let by = moves_by s p number block e is in
    let access = move_entry s p number by.fd by.piece block by.d in
    let alone : TellsAlone number access = record {
      tells = or_left (nat_eq number number) false (eq-eqb number number refl);
      alone = λ piece other. (other, refl);
    } in
    (subst (TellsAlone number) by.entry alone, ap is_access_or_miss (sym by.entry))

miss_alone : (p : Place) (number : ℕ) (found : Found) → TellsAlone number (entries.Missed p.at number found)
miss_alone p number found = record { tells = eq-eqb number number refl; alone = λ piece other. (refl, other) }

-- ---- every turn

-- the command in an engine's hand, which is in this phase
hand_in : (progress : Progress) (hand : InHand) (phase : Phase) → progress.hand ≡ Some hand → hand.phase ≡ phase →
    progress.hand ≡ Some (hand_of hand.piece phase)
hand_in progress hand phase in_hand is = in_hand ∙ ap (λ (x : Phase). Some (hand_of hand.piece x)) is

turn_of : (m : State) (p : Place) (step : Step) → IsStep m p step → IsEngineTurn m p step
turn_of m p step (enters number rest request none waiting of_piece is) =
    let found = found_entering (fin.get m.tables.rights request.key) request.write in
    subst (IsEngineTurn m p) (sym is)
    (record {
      does = StepDoes.takes number rest (phase_after found Looking) none waiting (entering_untold found) refl refl;
      walks = length-set m.tables.walks request.key.process _;
    })
turn_of m p step (looks hand request in_hand phase of_piece is) =
    let cell = hit m.tables.lines request.key request.index request.hi in
    subst (IsEngineTurn m p) (sym is)
    (record {
      does =
          StepDoes.goes_on hand.piece Looking (phase_looked cell) (hand_in (progress_of m p.at.process) hand Looking in_hand phase)
          (looking_untold cell) refl refl;
      walks = length-set m.tables.walks request.key.process _;
    })
turn_of m p step (reads hand request in_hand phase of_piece is) =
    let found = found_reading request.hi (lookup m.tables request.key request.index) in
    subst (IsEngineTurn m p) (sym is)
    (record {
      does =
          StepDoes.goes_on hand.piece Reading (phase_after found Filling) (hand_in (progress_of m p.at.process) hand Reading in_hand phase)
          (reading_untold found) refl refl;
      walks = length-set m.tables.walks request.key.process _;
    })
turn_of m p step (fills hand request completion in_hand phase of_piece told is) =
    subst (IsEngineTurn m p) (sym is)
    (record {
      does = StepDoes.goes_on hand.piece Filling Moving (hand_in (progress_of m p.at.process) hand Filling in_hand phase) refl refl refl;
      walks = refl;
    })
turn_of m p step (moves hand completion entry in_hand phase told entry_is is) =
    let alone = access_alone m.store p hand.piece completion.block entry entry_is in
    subst (IsEngineTurn m p) (sym is)
    (record {
      does =
          StepDoes.tells hand.piece Moving entry (hand_in (progress_of m p.at.process) hand Moving in_hand phase) refl refl alone.0 alone.1;
      walks = refl;
    })
turn_of m p step (misses hand found in_hand phase found_is is) =
    subst (IsEngineTurn m p) (sym is)
    (record {
      does =
          StepDoes.tells hand.piece Missing (entries.Missed p.at hand.piece found)
          (hand_in (progress_of m p.at.process) hand Missing in_hand phase) refl refl (miss_alone p hand.piece found) refl;
      walks = refl;
    })
turn_of m p step (retires hand in_hand phase is) =
    subst (IsEngineTurn m p) (sym is)
    (record {
      does = StepDoes.goes_on hand.piece Retiring Completing (hand_in (progress_of m p.at.process) hand Retiring in_hand phase) refl refl refl;
      walks = length-set m.tables.walks p.at.process _;
    })
turn_of m p step (completes hand in_hand phase is) =
    subst (IsEngineTurn m p) (sym is)
    (record {
      does = StepDoes.gives hand.piece (hand_in (progress_of m p.at.process) hand Completing in_hand phase) refl refl;
      walks = refl;
    })

pub step_is : (m : State) (p : Place) (step : Step) → engine_step m p ≡ Some step → IsEngineTurn m p step
step_is m p step is = turn_of m p step (engine_steps m p step is)

-- ---- what it leaves

-- the place without a new entry
pub at_none : (p : Place) (progress : Progress) → AreCommands p progress → AreCommands (grown p None) progress
at_none p progress are =
    subst (λ (before : List Entry). AreCommands (record p { before = before }) progress) (sym (append-nil p.before)) are

pub step_commands : (p : Place) (progress : Progress) (step : Step) → StepDoes p progress step → AreCommands p progress →
    AreCommands (grown p step.entry) step.progress
step_commands p progress step (StepDoes.takes number rest phase free list silent after none) are =
    subst (λ (o : Option Entry). AreCommands (grown p o) step.progress) (sym none)
    (subst (AreCommands (grown p None)) (sym after)
    (at_none p (taken progress number rest phase) (taken_commands p progress number rest phase free list silent are)))
step_commands p progress step (StepDoes.goes_on number phase next in_hand same after none) are =
    subst (λ (o : Option Entry). AreCommands (grown p o) step.progress) (sym none)
    (subst (AreCommands (grown p None)) (sym after)
    (at_none p (with_phase progress number next) (phase_commands p progress number phase next in_hand same are)))
step_commands p progress step (StepDoes.tells number phase e in_hand after adds alone access) are =
    subst (λ (o : Option Entry). AreCommands (grown p o) step.progress) (sym adds)
    (subst (AreCommands (grown p (Some e))) (sym after) (told_commands p progress number phase e in_hand alone are))
step_commands p progress step (StepDoes.gives number in_hand after none) are =
    subst (λ (o : Option Entry). AreCommands (grown p o) step.progress) (sym none)
    (subst (AreCommands (grown p None)) (sym after)
    (at_none p (given_back p progress number) (given_commands p progress number in_hand are)))

pub step_all : (P : ℕ → Type 0) (p : Place) (progress : Progress) (step : Step) → StepDoes p progress step → All P (outstanding progress) →
    All P (outstanding step.progress)
step_all P p progress step (StepDoes.takes number rest phase free list silent after none) all =
    subst (λ (x : Progress). All P (outstanding x)) (sym after) (taken_all p progress number rest phase free list P all)
step_all P p progress step (StepDoes.goes_on number phase next in_hand same after none) all =
    subst (λ (x : Progress). All P (outstanding x)) (sym after) (phase_all p progress number phase next in_hand P all)
step_all P p progress step (StepDoes.tells number phase e in_hand after adds alone access) all =
    subst (λ (x : Progress). All P (outstanding x)) (sym after) (phase_all p progress number phase Retiring in_hand P all)
step_all P p progress step (StepDoes.gives number in_hand after none) all =
    subst (λ (x : Progress). All P (outstanding x)) (sym after) (given_all p progress number in_hand P all)

pub step_held : (p : Place) (progress : Progress) (step : Step) → StepDoes p progress step → step.progress.held ≡ progress.held
step_held p progress step (StepDoes.takes number rest phase free list silent after none) = ap (λ (x : Progress). x.held) after
step_held p progress step (StepDoes.goes_on number phase next in_hand same after none) = ap (λ (x : Progress). x.held) after
step_held p progress step (StepDoes.tells number phase e in_hand after adds alone access) = ap (λ (x : Progress). x.held) after
step_held p progress step (StepDoes.gives number in_hand after none) = ap (λ (x : Progress). x.held) after

pub step_ended : (p : Place) (progress : Progress) (step : Step) → StepDoes p progress step → step.progress.ended ≡ progress.ended
step_ended p progress step (StepDoes.takes number rest phase free list silent after none) = ap (λ (x : Progress). x.ended) after
step_ended p progress step (StepDoes.goes_on number phase next in_hand same after none) = ap (λ (x : Progress). x.ended) after
step_ended p progress step (StepDoes.tells number phase e in_hand after adds alone access) = ap (λ (x : Progress). x.ended) after
step_ended p progress step (StepDoes.gives number in_hand after none) = ap (λ (x : Progress). x.ended) after

-- the entries of engines are accesses and misses
pub step_access : (p : Place) (progress : Progress) (step : Step) (e : Entry) → StepDoes p progress step → step.entry ≡ Some e →
    is_access_or_miss e ≡ true
step_access p progress step e (StepDoes.takes number rest phase free list silent after none) adds = absurd (none-some e (sym none ∙ adds))
step_access p progress step e (StepDoes.goes_on number phase next in_hand same after none) adds = absurd (none-some e (sym none ∙ adds))
step_access p progress step e (StepDoes.tells number phase told in_hand after is alone access) adds =
    ap is_access_or_miss (sym (same_Some told e (sym is ∙ adds))) ∙ access
step_access p progress step e (StepDoes.gives number in_hand after none) adds = absurd (none-some e (sym none ∙ adds))
