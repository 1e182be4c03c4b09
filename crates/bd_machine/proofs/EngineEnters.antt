-- The step of an engine that enters the key of the command that it has taken.
use Rattle.std.proofs.Common.{◌≡◌, inr, ℕ, set, Bool, List, [], ◌∷◌, ◌++◌, map, Option, None, Some, refl, sym, ap, ◌∙◌, subst, append_assoc}
use Rattle.std.specs.Prelude.{slice_index_or}
use Rattle.std.specs.FinMap as fin
use Rattle.std.specs.Option.{option_map}
use Rattle.std.proofs.lemmas.List.{append-nil}
use Rattle.std.proofs.lemmas.Option.{same_Some}
use Rattle.bd_base.specs.declared.journal.Found.{Found}
use Rattle.bd_entry.specs.Calls.{Place, has_missed}
use Rattle.bd_machine.specs.declared.process.Hand.{Hand}
use Rattle.bd_machine.specs.declared.process.Phase.{Phase}
use Rattle.bd_machine.specs.declared.process.Phase.TheVariants as phases
use Rattle.bd_machine.specs.declared.process.Process.{Process}
use Rattle.bd_machine.specs.Engines.{Becomes, IsWorking, TakesStep}
use Rattle.bd_machine.specs.Shows.{IsEngineHere, IsHandOf, IsOutcome, IsPassWhere, IsProcessAt, PlainParts, does_walk, hand_shown, has_pass, in_hand_of, phase_of, pieces_of_commands, plain_sides, progress_shown, request_of_command, taken_shown}
use Rattle.bd_machine.specs.Turns.{Sight}
use Rattle.bd_machine.proofs.EngineAsks.{working_with}
use Rattle.bd_machine.proofs.EngineFacts.{Working}
use Rattle.bd_machine.proofs.EngineLooks.{after_told, after_walks, engine_there, plain_here, walked_same}
use Rattle.bd_machine.proofs.EnginePasses.{keeps_passes, then_passes}
use Rattle.bd_machine.proofs.EngineSteps.{ProcessSteps}
use Rattle.bd_machine.proofs.EngineWalks.{takes_quiet, walking}
use Rattle.bd_queue_pair.specs.declared.command.Command.{Command}
use Rattle.bd_tables.specs.declared.plain.PlainPass.{PlainPass}
use Rattle.bd_tables.specs.declared.request.Request.{Request}
use Rattle.bd_tables.specs.declared.request.Walked.{Walked}
use Rattle.bd_tables.specs.declared.state.Walk.TheVariants.{Idle}
use Rattle.bd_tables.specs.Effects as effects
use Rattle.bd_tables.specs.Passes.{IsLent}
use Rattle.bd_tables.specs.Plain.{LiesHere, PlainState, tables_of, walked_of}
use Rattle.bd_tables.specs.State.{TableState, found_entering}
use Rattle.bd_turns.specs.declared.turn.Row.TheVariants as rows
use Rattle.bd_turns.specs.Engines as engines
use Rattle.bd_turns.specs.Engines.{engine_step, engine_with, phase_after, request_of_piece, take_command}
use Rattle.bd_turns.specs.State.{Completed, InHand, Progress, State, outstanding, pieces_in_hand, progress_of, running}
use Rattle.bd_turns.specs.State as turns

module _ {M : Type 0} (g : Sight) (x : PlainParts M) (q : ℕ) (w : IsWorking plain_sides g x q phases.Taken) where
  abbrev held : Option ℕ
  held = slice_index_or x.disk.held q None

  at_is : IsProcessAt plain_sides g.state held x.tables q w.it
  at_is = w.at.shows.each q w.it w.there

  here : IsEngineHere plain_sides x.tables q at_is.phase w.it
  here = plain_here x.tables q at_is.phase w.it at_is.engine

  phase_none : at_is.phase ≡ None
  phase_none = here.phase_is ∙ ap phase_of w.phase_is

  -- the pass lies in the tables
  pub pass_here : LiesHere x.tables.places q
  pass_here =
      (subst (λ (b : Bool). IsPassWhere plain_sides b x.tables q w.it.pass)
      (ap (does_walk w.it.phase) w.in_hand ∙ ap has_pass w.phase_is) here.pass).0

  shown_is : progress_of g.state q ≡ progress_shown held None w.it
  shown_is = at_is.progress ∙ ap (λ (f : Option turns.Phase). progress_shown held f w.it) phase_none

  -- what the step leaves
  pub record Enters (y : PlainParts M) (request : Request) (lent back : PlainPass) (answer : Walked) (found : Option Found) (next : Phase)
      (t1 t : PlainState) : Type 0 where
    pub request_is : request ≡ request_of_command q w.hand.command
    pub lent_process : lent.process ≡ q
    pub lent_places : t1.places ≡ set x.tables.places q (Some Idle)
    pub lent_tables : tables_of t1 ≡ tables_of x.tables
    pub answer_is : answer ≡ walked_of (found_entering (fin.get t1.rights request.key) request.write)
    pub tables_are : tables_of t ≡ effects.enter (tables_of t1) request
    pub places : t.places ≡ set t1.places lent.process (Some back.walk)
    pub process_is : back.process ≡ lent.process
    pub back_lent : IsLent t back
    pub found_is : answer ≡ walked_of found
    pub phase_is : phase_of next ≡ Some (phase_after found turns.Looking)
    pub again : Becomes (record x { tables = t }) y q t (walking w.it next (Some back))

  module _ (y : PlainParts M) (request : Request) (lent back : PlainPass) (answer : Walked) (found : Option Found) (next : Phase)
      (t1 t : PlainState) (s : Enters y request lent back answer found next t1 t) where
    abbrev c : Command
    c = w.hand.command

    abbrev pieces : List ℕ
    pieces = pieces_of_commands w.it.queue.submitted

    abbrev phase : turns.Phase
    phase = phase_after found turns.Looking

    abbrev m : State
    m = g.state

    -- nothing is in the hand that is shown, and the command is the first of those submitted
    no_hand : (progress_of m q).hand ≡ None
    no_hand = ap (λ (n : Progress). n.hand) shown_is ∙ ap (hand_shown None) w.in_hand

    first_piece : (progress_of m q).submitted ≡ c.piece ∷ pieces
    first_piece =
        ap (λ (n : Progress). n.submitted) shown_is ∙ ap (λ (h : Option Hand). taken_shown None h ++ pieces) w.in_hand

    -- what is outstanding
    outstanding_is : outstanding (progress_of m q) ≡ map (λ (done : Completed). done.piece) (progress_of m q).completed ++ c.piece ∷ [] ++ pieces
    outstanding_is =
        let done : List ℕ = map (λ (done : Completed). done.piece) (progress_of m q).completed in
        ap (λ (h : Option InHand). done ++ pieces_in_hand h ++ (progress_of m q).submitted) no_hand
        ∙ ap (λ (l : List ℕ). done ++ [] ++ l) first_piece
        ∙ ap (λ (l : List ℕ). l ++ (c.piece ∷ pieces)) (append-nil done)
        ∙ sym (append_assoc done (c.piece ∷ []) pieces)

    known : Working plain_sides g x q w.it
    known = working_with g x q w.it w.hand w.at w.there w.in_hand

    abbrev place : Place
    place = known.place

    old_hand : IsHandOf place None w.hand
    old_hand =
        subst (λ (f : Option turns.Phase). IsHandOf place f w.hand) phase_none (at_is.hand place w.hand known.running_is w.in_hand)

    of_piece : request_of_piece place c.piece ≡ Some request
    of_piece =
        old_hand.command.request
        ∙ ap Some (sym (s.request_is ∙ ap (λ (n : ℕ). request_of_command n c) (sym known.process_is)))

    tables_same : tables_of t1 ≡ m.tables
    tables_same = s.lent_tables ∙ sym w.at.shows.tables

    found_same : found_entering (fin.get m.tables.rights request.key) request.write ≡ found
    found_same =
        walked_same (found_entering (fin.get m.tables.rights request.key) request.write) found
        (ap (λ (t : TableState). walked_of (found_entering (fin.get t.rights request.key) request.write)) (sym tables_same)
        ∙ sym s.answer_is ∙ s.found_is)

    abbrev z : Process PlainPass
    z = walking w.it next (Some back)

    abbrev old : Progress
    old = progress_of m place.at.process

    abbrev new : Progress
    new = record old { submitted = pieces; hand = Some (in_hand_of w.hand phase) }

    stepping : engine_step m place ≡ Some (record {
      row = rows.Enter found;
      tables = effects.enter m.tables request;
      progress = new;
      entry = None;
    })
    stepping =
        ap (engine_with m place old) (ap (λ (n : ℕ). (progress_of m n).hand) known.process_is ∙ no_hand)
        ∙ ap (take_command m.tables place old) (ap (λ (n : ℕ). (progress_of m n).submitted) known.process_is ∙ first_piece)
        ∙ ap (option_map (engines.enter m.tables old c.piece pieces)) of_piece
        ∙ ap (λ (o : Option Found).
        Some (engines.walks (rows.Enter o) (record old { submitted = pieces }) c.piece (phase_after o turns.Looking) (effects.enter m.tables request)))
        found_same

    new_shown : new ≡ progress_shown held (Some phase) z
    new_shown =
        ap (λ (n : Progress). record n { submitted = pieces; hand = Some (in_hand_of w.hand phase) })
        (ap (progress_of m) known.process_is ∙ shown_is)
        ∙ ap (λ (h : Option Hand). record (progress_shown held None w.it) { submitted = pieces; hand = hand_shown (Some phase) h }) (sym w.in_hand)

    hand_is : (h : Hand) → w.it.hand ≡ Some h → IsHandOf place (Some phase) h
    hand_is h is =
        subst (IsHandOf place (Some phase)) (same_Some w.hand h (sym w.in_hand ∙ is))
        (record {
          command = old_hand.command;
          outcome =
              subst (λ (b : Bool). IsOutcome b (has_missed c.piece place.before) w.hand.outcome)
              (sym (after_told found turns.Looking refl)) old_hand.outcome;
        })

    same_commands : outstanding new ≡ outstanding (progress_of m q)
    same_commands =
        ap (λ (n : ℕ). map (λ (done : Completed). done.piece) (progress_of m n).completed ++ c.piece ∷ [] ++ pieces) known.process_is
        ∙ sym outstanding_is

    process_steps : ProcessSteps plain_sides x y m place q w.it z t (effects.enter m.tables request) new
    process_steps = record {
      phase = Some phase;
      becomes = record {
        tables_are = s.again.tables_are;
        disk = s.again.disk;
        log = s.again.log;
        others = record { count = s.again.others.count; others = s.again.others.others };
        mine = s.again.mine;
      };
      tables_are = ap (λ (t : TableState). effects.enter t request) (sym tables_same) ∙ sym s.tables_are;
      passes =
          then_passes x.tables t1 t q (keeps_passes x.tables t1 q (Some Idle) s.lent_places)
          (keeps_passes t1 t q (Some back.walk) (s.places ∙ ap (λ (n : ℕ). set t1.places n (Some back.walk)) s.lent_process));
      call = refl;
      progress = new_shown;
      ended = refl;
      outstanding_is = same_commands;
      submitted = known.is_shown.submitted place known.running_is;
      taken = known.is_shown.taken;
      hand = hand_is;
      engine =
          inr (engine_there t q w.it w.hand next phase back w.in_hand s.phase_is (after_walks found turns.Looking refl)
          (s.process_is ∙ s.lent_process) s.back_lent);
    }

    pub enters_on : TakesStep plain_sides g x y q (rows.Enter found)
    enters_on =
        takes_quiet g x y q w.it z t (rows.Enter found) (effects.enter m.tables request) new w.at w.there known process_steps refl stepping
