-- The step of an engine that gives a completion back.
use Rattle.std.proofs.Common.{◌≡◌, ◌⊎◌, inl, inr, ⊎_elim, ℕ, Bool, true, List, [], ◌∷◌, ◌++◌, map, Option, None, Some, refl, sym, ap, ◌∙◌, subst}
use Rattle.std.specs.Prelude.{slice_index_or, IsSome}
use Rattle.std.specs.Option.{option_map, option_to_list}
use Rattle.std.proofs.lemmas.List.{append-nil, map-append}
use Rattle.std.proofs.lemmas.Option.{none-some}
use Rattle.bd_entry.specs.Calls.{Place, has_missed}
use Rattle.bd_machine.specs.declared.parts.Parts.{Parts}
use Rattle.bd_machine.specs.declared.process.Hand.{Hand}
use Rattle.bd_machine.specs.declared.process.Process.{Process}
use Rattle.bd_machine.specs.Engines.{Becomes, HasAnswer, IsInPhase, TakesStep, without_command}
use Rattle.bd_machine.specs.Shows.{IsEngineHere, IsOutcome, IsPassWhere, completed_of, in_hand_of, is_miss, progress_shown}
use Rattle.bd_machine.specs.Turns.{Sight}
use Rattle.bd_machine.proofs.EngineFacts.{Working}
use Rattle.bd_machine.proofs.EnginePhases.{same_passes, walks_in}
use Rattle.bd_machine.proofs.EngineSteps.{ProcessSteps}
use Rattle.bd_machine.proofs.EngineWalks.{engine_is, facts, goes, hand_is, in_hand_there, progress_is, takes_quiet}
use Rattle.bd_queue_pair.specs.declared.command.Command.{Command}
use Rattle.bd_queue_pair.specs.declared.command.DoneKind.{DoneKind}
use Rattle.bd_turns.specs.declared.turn.Row.TheVariants as rows
use Rattle.bd_turns.specs.State.{Completed, Completing, InHand, Progress, State, outstanding, pieces_in_hand, progress_of}
use Rattle.bd_tables.specs.declared.sides.Tables as sides

-- the outcome that is kept where the journal tells of it
told_outcome : (missed : Bool) (o : Option DoneKind) → IsOutcome true missed o → (kind : DoneKind) × (o ≡ Some kind) × (is_miss kind ≡ missed)
told_outcome missed None is = absurd is
told_outcome missed (Some kind) is = (kind, refl, is)

module _ {T M P : Type 0} {K : sides.Ghosts T P} (g : Sight) (x : Parts T M P) (q : ℕ) (w : IsInPhase K g x q Completing) where
  abbrev known : Working K g x q w.it
  known = facts g x q Completing w

  abbrev place : Place
  place = known.place

  abbrev m : State
  m = g.state

  abbrev c : Command
  c = w.hand.command

  pub outcome : (kind : DoneKind) × (w.hand.outcome ≡ Some kind) × (is_miss kind ≡ has_missed c.piece place.before)
  outcome = told_outcome (has_missed c.piece place.before) w.hand.outcome (hand_is g x q Completing w).outcome

  -- the command in hand is the one that was taken
  queue_hand : w.it.queue.in_hand ≡ c ∷ []
  queue_hand = known.is_shown.taken ∙ ap (λ (h : Option Hand). option_to_list (option_map (λ (h : Hand). h.command) h)) w.in_hand

  pub has_answer : HasAnswer x q
  has_answer = record {
    it = w.it;
    there = w.there;
    hand = w.hand;
    in_hand = w.in_hand;
    taken = queue_hand;
    some = subst IsSome (sym outcome.1) refl;
  }

  -- its engine has no pass, before and after
  given_back : K.apart x.tables ⊎ IsEngineHere K x.tables q (Some Completing) (without_command w.it c outcome.0)
  given_back =
      ⊎_elim {C = K.apart x.tables ⊎ IsEngineHere K x.tables q (Some Completing) (without_command w.it c outcome.0)}
      (λ apart. inl apart)
      (λ here. inr (record {
        phase_is = here.phase_is;
        pass =
            subst (λ (b : Bool). IsPassWhere K b x.tables q w.it.pass) (walks_in w.it (Some Completing) w.hand w.in_hand here.phase_is) here.pass;
      }))
      (engine_is g x q Completing w)

  module _ (y : Parts T M P) (b : Becomes x y q x.tables (without_command w.it c outcome.0)) where
    abbrev kind : DoneKind
    kind = outcome.0

    abbrev z : Process P
    z = without_command w.it c kind

    abbrev old : Progress
    old = progress_of m place.at.process

    abbrev done : Completed
    done = record { piece = c.piece; missed = has_missed c.piece place.before }

    abbrev new : Progress
    new = record old { hand = None; completed = old.completed ++ done ∷ [] }

    old_shown : old ≡ progress_shown (slice_index_or x.disk.held q None) (Some Completing) w.it
    old_shown = progress_is g x q Completing w

    done_is : done ∷ [] ≡ completed_of (record { piece = c.piece; outcome = kind }) ∷ []
    done_is = ap (λ (missed : Bool). record { piece = c.piece; missed = missed } ∷ []) (sym outcome.2)

    new_completed : old.completed ++ done ∷ [] ≡ map completed_of z.queue.completed
    new_completed =
        ap (λ (n : Progress). n.completed ++ done ∷ []) old_shown
        ∙ ap (λ (l : List Completed). map completed_of w.it.queue.completed ++ l) done_is
        ∙ sym (map-append completed_of w.it.queue.completed (record { piece = c.piece; outcome = kind } ∷ []))

    new_shown : new ≡ progress_shown (slice_index_or x.disk.held q None) (Some Completing) z
    new_shown =
        ap (λ (n : Progress). record n { hand = None; completed = old.completed ++ done ∷ [] }) old_shown
        ∙ ap (λ (l : List Completed). record (progress_shown (slice_index_or x.disk.held q None)
        (Some Completing) w.it) { hand = None; completed = l }) new_completed

    same_commands : outstanding new ≡ outstanding (progress_of m q)
    same_commands =
        let piece_of : Completed → ℕ = λ done. done.piece in
        let more : map piece_of (old.completed ++ done ∷ []) ≡ map piece_of old.completed ++ c.piece ∷ [] =
        map-append piece_of old.completed (done ∷ []) in
        let held : old.hand ≡ Some (in_hand_of w.hand Completing) = in_hand_there g x q Completing w in
        let first : outstanding new ≡ map piece_of old.completed ++ c.piece ∷ [] ++ old.submitted =
        ap (λ (l : List ℕ). l ++ old.submitted) (append-nil (map piece_of (old.completed ++ done ∷ [])) ∙ more) in
        let last : outstanding old ≡ map piece_of old.completed ++ c.piece ∷ [] ++ old.submitted =
        ap (λ (h : Option InHand). map piece_of old.completed ++ pieces_in_hand h ++ old.submitted) held in
        first ∙ sym last ∙ ap (λ (n : ℕ). outstanding (progress_of m n)) known.process_is

    process_steps : ProcessSteps K x y m place q w.it z x.tables m.tables new
    process_steps = record {
      phase = Some Completing;
      becomes = b;
      tables_are = w.at.shows.tables;
      passes = same_passes x.tables q;
      call = refl;
      progress = new_shown;
      ended = refl;
      outstanding_is = same_commands;
      submitted = known.is_shown.submitted place known.running_is;
      taken = refl;
      hand = λ h is. absurd (none-some h is);
      engine = given_back;
    }

    pub completes_on : TakesStep K g x y q rows.Complete
    completes_on =
        takes_quiet g x y q w.it z x.tables rows.Complete m.tables new w.at w.there known process_steps refl
        (goes g x q Completing w)
