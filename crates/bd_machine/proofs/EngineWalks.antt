-- A step of an engine that walks with the command in its hand: the parts after it show the state after it.
use Rattle.std.proofs.Common.{◌≡◌, ◌≢◌, ◌⊎◌, ℕ, ◌<◌, Bool, List, [], ◌∷◌, ◌++◌, map, Option, None, Some, refl, sym, ap, ◌∙◌, subst}
use Rattle.std.specs.Prelude.{slice_index_or, IsSome}
use Rattle.std.proofs.lemmas.Option.{none-some, same_Some}
use Rattle.bd_base.specs.declared.limits.TheConstants.{CALLS}
use Rattle.bd_entry.specs.Calls.{Place, has_missed}
use Rattle.bd_machine.specs.declared.parts.Parts.{Parts}
use Rattle.bd_machine.specs.declared.process.Hand.{Hand}
use Rattle.bd_machine.specs.declared.process.Phase as process
use Rattle.bd_machine.specs.declared.process.Process.{Process}
use Rattle.bd_machine.specs.Engines.{Becomes, IsInPhase, TakesStep}
use Rattle.bd_machine.specs.Logs.{LogState}
use Rattle.bd_machine.specs.Shows.{IsEngineHere, IsHandOf, IsOutcome, Shows, hand_shown, in_hand_of, progress_shown}
use Rattle.bd_machine.specs.Turns.{IsAt, Sight, process_in}
use Rattle.bd_machine.proofs.EngineFacts.{Working, working}
use Rattle.bd_machine.proofs.EngineSteps.{ProcessSteps, steps_shown, still_runs}
use Rattle.bd_machine.proofs.Showing.{KeepsPasses}
use Rattle.bd_tables.specs.State.{TableState}
use Rattle.bd_turns.specs.declared.turn.Row.{Row}
use Rattle.bd_turns.specs.Engines.{engine_step, engine_with, go_on, walks}
use Rattle.bd_turns.specs.Sound.{IsWalkFor, has_told}
use Rattle.bd_turns.specs.State.{Completed, InHand, Phase, Progress, State, outstanding, pieces_in_hand, progress_of, running, with_progress}
use Rattle.bd_turns.specs.Turns.{turns_per_call}
use Rattle.bd_turns.proofs.EngineCommands.{same_outstanding}
use Rattle.bd_tables.specs.declared.sides.Tables as sides

-- ---- a step that adds no entry

-- the parts after such a step of an engine show the state after it
pub takes_quiet : {T M P : Type 0} {K : sides.Ghosts T P} (g : Sight) (x y : Parts T M P) (q : ℕ) (it z : Process P) (t : T) (row : Row)
    (tables : TableState) (new : Progress) →
    IsAt K g.script x g.state → process_in x q ≡ Some it → (known : Working K g x q it) →
    ProcessSteps K x y g.state known.place q it z t tables new → z.used ≡ it.used →
    engine_step g.state known.place ≡ Some (record { row = row; tables = tables; progress = new; entry = None }) →
    TakesStep K g x y q row
takes_quiet {T} {M} {P} {K} g x y q it z t row tables new at there known s used stepping =
    let p : Place = known.place in
    let m : State = g.state in
    let shown = steps_shown g.script x y m p q it z t tables new at.shows known.running_is there s in
    let runs = still_runs g.script x y m p q it z t tables new at.shows known.running_is there s in
    record {
      place = p;
      running_is = known.running_is;
      step = record { row = row; tables = tables; progress = new; entry = None };
      stepping = stepping;
      row_is = refl;
      shows =
          subst (λ (n : ℕ). Shows K g.script y (with_progress (record m { tables = tables }) n new)) (sym known.process_is) shown;
      before = p.before;
      still =
          subst (λ (n : ℕ). running (with_progress (record m { tables = tables }) n new) n ≡ Some p) (sym known.process_is) runs;
      later = known.later;
      begun = record {
        it = z;
        there = s.becomes.mine;
        begun = subst IsSome (sym (s.call ∙ known.call_is)) refl;
      };
      few = record {
        calls = λ k is.
            subst (λ (k : Process P). k.ended < CALLS) (same_Some z k (sym s.becomes.mine ∙ is))
            (subst (λ (n : ℕ). n < CALLS) (sym s.ended) (known.few.calls it there));
        turns = λ k is.
            subst (λ (k : Process P). k.used < turns_per_call) (same_Some z k (sym s.becomes.mine ∙ is))
            (subst (λ (n : ℕ). n < turns_per_call) (sym used) (known.few.turns it there));
      };
      events = ap (λ (l : LogState). l.events) s.becomes.log;
      turns = ap (λ (l : LogState). l.turns) s.becomes.log;
      room = λ room. subst (λ (l : LogState). 0 < l.event_room) (sym s.becomes.log) room.event;
    }

-- ---- an engine with a command in its hand

-- something is outstanding where an engine has a command in its hand
pub some_outstanding : (done : List ℕ) (piece : ℕ) (rest : List ℕ) → done ++ piece ∷ [] ++ rest ≢ []
some_outstanding [] piece rest none = let no : piece ∷ rest ≡ [] = none in cc
some_outstanding (n ∷ done) piece rest none = let no : n ∷ (done ++ piece ∷ [] ++ rest) ≡ [] = none in cc

-- the phase of an engine that has this in its hand
pub phase_shown : (phase : Option Phase) (hand : Hand) (now : Phase) → hand_shown phase (Some hand) ≡ Some (in_hand_of hand now) →
    phase ≡ Some now
phase_shown None hand now is = absurd (none-some (in_hand_of hand now) is)
phase_shown (Some phase) hand now is =
    ap (λ (h : InHand). Some h.phase) (same_Some (in_hand_of hand phase) (in_hand_of hand now) is)

module _ {T M P : Type 0} {K : sides.Ghosts T P} (g : Sight) (x : Parts T M P) (q : ℕ) (phase : Phase) (w : IsInPhase K g x q phase) where
  pub facts : Working K g x q w.it
  facts =
      working g x q w.it w.at w.there
      (λ none.
      some_outstanding (map (λ (done : Completed). done.piece) (progress_of g.state q).completed) w.hand.command.piece (progress_of g.state q).submitted
      (sym
      (ap (λ (h : Option InHand).
      map (λ (done : Completed). done.piece) (progress_of g.state q).completed ++ pieces_in_hand h ++ (progress_of g.state q).submitted) w.entered)
      ∙ none))

  -- the same at the place of the running call
  pub in_hand_there : (progress_of g.state facts.place.at.process).hand ≡ Some (in_hand_of w.hand phase)
  in_hand_there = subst (λ (n : ℕ). (progress_of g.state n).hand ≡ Some (in_hand_of w.hand phase)) (sym facts.process_is) w.entered

  pub running_there : running g.state facts.place.at.process ≡ Some facts.place
  running_there = subst (λ (n : ℕ). running g.state n ≡ Some facts.place) (sym facts.process_is) facts.running_is

  -- the engine walks for that command
  pub walk_for : IsWalkFor g.state facts.place (in_hand_of w.hand phase)
  walk_for =
      facts.sound.tables_are.hands facts.place.at.process facts.place (in_hand_of w.hand phase) running_there in_hand_there

  -- what its turn is
  pub goes : engine_step g.state facts.place
      ≡ go_on g.state facts.place (progress_of g.state facts.place.at.process) w.hand.command.piece phase
  goes = ap (engine_with g.state facts.place (progress_of g.state facts.place.at.process)) in_hand_there

  -- the phase in which the process is shown
  pub phase_is : facts.is_shown.phase ≡ Some phase
  phase_is =
      phase_shown facts.is_shown.phase w.hand phase
      (ap (hand_shown facts.is_shown.phase) (sym w.in_hand) ∙ sym (ap (λ (n : Progress). n.hand) facts.is_shown.progress) ∙ w.entered)

  -- the command and its outcome
  pub hand_is : IsHandOf facts.place (Some phase) w.hand
  hand_is =
      subst (λ (f : Option Phase). IsHandOf facts.place f w.hand) phase_is
      (facts.is_shown.hand facts.place w.hand facts.running_is w.in_hand)

  -- its progress, with this phase
  pub progress_is : progress_of g.state facts.place.at.process ≡ progress_shown (slice_index_or x.disk.held q None) (Some phase) w.it
  progress_is =
      ap (progress_of g.state) facts.process_is ∙ facts.is_shown.progress
      ∙ ap (λ (f : Option Phase). progress_shown (slice_index_or x.disk.held q None) f w.it) phase_is

  -- where its engine is
  pub engine_is : K.apart x.tables ⊎ IsEngineHere K x.tables q (Some phase) w.it
  engine_is =
      subst (λ (f : Option Phase). K.apart x.tables ⊎ IsEngineHere K x.tables q f w.it) phase_is facts.is_shown.engine

-- the process in this phase and with this pass
abbrev pub walking : {P : Type 0} → Process P → process.Phase → Option P → Process P
walking it next pass = record it { phase = next; pass = pass }

-- a step of a walk
pub record WalksOn {T M P : Type 0} (K : sides.Ghosts T P) (g : Sight) (x : Parts T M P) (q : ℕ) (phase : Phase)
    (w : IsInPhase K g x q phase) (y : Parts T M P) (row : Row) (next : Phase) (mark : process.Phase) (t : T) (tables : TableState)
    (pass : Option P) : Type 0 where
  pub stepping : engine_step g.state (facts g x q phase w).place
      ≡ Some (walks row (progress_of g.state (facts g x q phase w).place.at.process) w.hand.command.piece next tables)
  pub becomes : Becomes x y q t (walking w.it mark pass)
  pub tables_are : K.shows t tables
  pub passes : KeepsPasses K x.tables t q
  pub engine : K.apart t ⊎ IsEngineHere K t q (Some next) (walking w.it mark pass)
  pub told : has_told phase ≡ has_told next

module _ {T M P : Type 0} {K : sides.Ghosts T P} (g : Sight) (x : Parts T M P) (q : ℕ) (phase : Phase) (w : IsInPhase K g x q phase)
    (y : Parts T M P) (row : Row) (next : Phase) (mark : process.Phase) (t : T) (tables : TableState) (pass : Option P)
    (s : WalksOn K g x q phase w y row next mark t tables pass) where
  abbrev known : Working K g x q w.it
  known = facts g x q phase w

  abbrev old : Progress
  old = progress_of g.state known.place.at.process

  abbrev new : Progress
  new = record old { hand = Some (in_hand_of w.hand next) }

  new_shown : new ≡ progress_shown (slice_index_or x.disk.held q None) (Some next) (walking w.it mark pass)
  new_shown =
      ap (λ (n : Progress). record n { hand = Some (in_hand_of w.hand next) }) (progress_is g x q phase w)
      ∙ ap (λ (h : Option Hand). record (progress_shown (slice_index_or x.disk.held q None) (Some next) w.it) { hand = hand_shown (Some next) h })
      (sym w.in_hand)

  hand_now : (h : Hand) → w.it.hand ≡ Some h → IsHandOf known.place (Some next) h
  hand_now h is =
      let old_hand : IsHandOf known.place (Some phase) w.hand = hand_is g x q phase w in
      subst (IsHandOf known.place (Some next)) (same_Some w.hand h (sym w.in_hand ∙ is))
      (record {
        command = old_hand.command;
        outcome = subst (λ (b : Bool). IsOutcome b (has_missed w.hand.command.piece known.place.before) w.hand.outcome) s.told old_hand.outcome;
      })

  process_steps : ProcessSteps K x y g.state known.place q w.it (walking w.it mark pass) t tables new
  process_steps = record {
    phase = Some next;
    becomes = s.becomes;
    tables_are = s.tables_are;
    passes = s.passes;
    call = refl;
    progress = new_shown;
    ended = refl;
    outstanding_is =
        same_outstanding known.place old w.hand.command.piece phase next (in_hand_there g x q phase w)
        ∙ ap (λ (n : ℕ). outstanding (progress_of g.state n)) known.process_is;
    submitted = known.is_shown.submitted known.place known.running_is;
    taken = known.is_shown.taken;
    hand = hand_now;
    engine = s.engine;
  }

  pub walks_on : TakesStep K g x y q row
  walks_on =
      takes_quiet g x y q w.it (walking w.it mark pass) t row tables new w.at w.there known process_steps refl s.stepping
