-- Each turn in the name of a read, a write or a raw command leaves it fewer turns.
use Rattle.std.proofs.Common.{◌≡◌, ◌≢◌, inl, ℕ, ◌+◌, ◌*◌, ◌≤◌, Bool, true, false, not, ◌||◌, List, [], ◌∷◌, ◌++◌, Option, None, Some, refl, ap, ◌∙◌, arith}
use Rattle.std.specs.Prelude.{drop, nat_eq}
use Rattle.std.specs.Option.{option_to_list}
use Rattle.std.specs.List.{list_any}
use Rattle.std.proofs.lemmas.Bool.{false≢true, or_from}
use Rattle.bd_base.specs.declared.script.Call.{Call}
use Rattle.bd_base.specs.declared.script.Call.TheVariants.{Read, Write, RawRead, RawWrite}
use Rattle.bd_base.specs.declared.volume.Inode.{Inode}
use Rattle.bd_base.specs.declared.volume.Volume.{Volume}
use Rattle.bd_entry.specs.declared.entry.Entry.{Entry}
use Rattle.bd_entry.specs.declared.entry.Entry.TheVariants as entries
use Rattle.bd_entry.specs.Calls.{Place, at_of, pieces_of_call}
use Rattle.bd_entry.specs.Effects.{after_change}
use Rattle.bd_entry.specs.Rules.{place_in}
use Rattle.bd_entry.specs.Store.{Store, size_at, size_in}
use Rattle.bd_entry.proofs.EffectsOnFiles.{effect_of-files}
use Rattle.bd_turns.specs.Engines.{Step, engine_step}
use Rattle.bd_turns.specs.Processors as processors
use Rattle.bd_turns.specs.Processors.{next_action}
use Rattle.bd_turns.specs.Reached.{IsReached}
use Rattle.bd_turns.specs.Rest.{command_turns, kernel_turns, piece_turns, turns_for}
use Rattle.bd_turns.specs.State.{Progress, State, outstanding, progress_of, running}
use Rattle.bd_turns.specs.Turns.{with_turn_used}
use Rattle.bd_turns.proofs.CommandsOfSteps.{step_is}
use Rattle.bd_turns.proofs.StepsLeave.{step_keeps}
use Rattle.bd_turns.proofs.FilesOfCalls.{store_after}
use Rattle.bd_turns.proofs.EffectiveTurns.{store_with}
use Rattle.bd_turns.proofs.PieceSteps.{poll_outstanding, poll_turns, polls_some, step_outstanding, submission_outstanding, submission_turns}
use Rattle.bd_turns.proofs.PieceTurns.{after, kernel_less, untouched_falls, untouched_less, untouched_with}
use Rattle.bd_turns.proofs.ProcessorTurns.{is_fresh}
use Rattle.bd_turns.proofs.StepTurns.{steps_fall}
use Rattle.bd_entry.specs.Promises.{is_access_or_miss}

-- a call with pieces counts their turns
pub of_pieces : (m : State) (p : Place) (call : Call) (file : Option ℕ) → pieces_of_call call ≢ [] → turns_for m p call file ≡ piece_turns m p file
of_pieces m p (Read fd off len) file some = refl
of_pieces m p (Write fd off bytes) file some = refl
of_pieces m p (RawRead address range) file some = refl
of_pieces m p (RawWrite address lo bytes) file some = refl
of_pieces m p call file some = absurd (some refl)

-- what is counted for them after a turn and before
abbrev pub PiecesFall : State → State → Place → List Entry → Progress → Option ℕ → Type 0
PiecesFall m next p added g file =
    kernel_turns next.store (after p added) g.held + 9 * untouched_with (after p added) (outstanding g) + command_turns g + 1
    ≤ kernel_turns m.store p file + 9 * untouched_with p (outstanding (progress_of m p.at.process)) + command_turns (progress_of m p.at.process)

pub pieces_fall : (m next : State) (p : Place) (added : List Entry) (g : Progress) (file : Option ℕ) →
    progress_of next p.at.process ≡ with_turn_used g → PiecesFall m next p added g file →
    piece_turns next (after p added) g.held + 1 ≤ piece_turns m p file
pieces_fall m next p added g file progress falls =
    let same : piece_turns next (after p added) g.held
    ≡ kernel_turns next.store (after p added) g.held + 9 * untouched_with (after p added) (outstanding g) + command_turns g =
    ap
    (λ (x : Progress). kernel_turns next.store (after p added) g.held + 9 * untouched_with (after p added) (outstanding x) + command_turns x) progress in
    omega (arith, same, falls)

-- an entry of an engine leaves the size of each file
device_size : (s : Store) (call : Call) (e : Entry) (file : ℕ) → is_access_or_miss e ≡ true → size_in (store_after s call e) file ≡ size_in s file
device_size s call e file is =
    ap (λ (files : List (Option Inode)). size_at files file) ((effect_of-files s (place_in s call (at_of e)) e).files ∙ by e is)
  where
    by : (x : Entry) → is_access_or_miss x ≡ true → (after_change s x).files ≡ s.files
    by (entries.Access at piece fd f index block range true way bytes) is = refl
    by (entries.Access at piece fd f index block range false way bytes) is = refl
    by (entries.Missed at piece found) is = refl
    by x is = absurd (false≢true is)

module _ (v : Volume) (m next : State) (reached : IsReached v m) (p : Place) (runs : running m p.at.process ≡ Some p) where
  abbrev old : Progress
  old = progress_of m p.at.process

  -- ---- submissions and polls

  pub submits_fall : (piece : ℕ) → next_action m p ≡ Some (processors.Submits piece) → next.store ≡ m.store →
      PiecesFall m next p [] (record old { submitted = old.submitted ++ piece ∷ [] }) old.held
  submits_fall piece acting store =
      let facts = is_fresh m p piece acting in
      let outs : List ℕ = outstanding old in
      let untouched_is = ap not (or_from_both facts.untold facts.fresh) in
      let kernel = kernel_less m.store next.store p [] old.held (λ file held. ap (λ (s : Store). size_in s file) store) in
      let fewer = untouched_falls p outs piece facts.within untouched_is in
      let same : untouched_with (after p []) (outstanding (record old { submitted = old.submitted ++ piece ∷ [] }))
      ≡ untouched_with (after p []) (outs ++ piece ∷ []) =
      ap (untouched_with (after p [])) (submission_outstanding old piece) in
      let turns = submission_turns old piece in
      omega (arith, kernel, fewer, same, turns)
    where
      or_from_both : {a b : Bool} → a ≡ false → b ≡ false → (a || b) ≡ false
      or_from_both {a = a} {b = b} first second = or_from a b first second

  pub polls_fall : next_action m p ≡ Some processors.Polls → next.store ≡ m.store →
      PiecesFall m next p [] (record old { completed = drop 1 old.completed }) old.held
  polls_fall acting store =
      let are = reached.sound.calls.commands.of_running p.at.process p runs in
      let kernel = kernel_less m.store next.store p [] old.held (λ file held. ap (λ (s : Store). size_in s file) store) in
      let fewer =
      untouched_less p [] (outstanding old) (outstanding (record old { completed = drop 1 old.completed })) (poll_outstanding p old are) in
      let turns = poll_turns old (polls_some m p acting) in
      omega (arith, kernel, fewer, turns)

  -- ---- steps of engines

  pub step_falls : (step : Step) → engine_step m p ≡ Some step → next.store ≡ store_with m.store p.call step.entry →
      PiecesFall m next p (option_to_list step.entry) step.progress old.held
  step_falls step stepping store =
      let falls = steps_fall m p step stepping in
      let added : List Entry = option_to_list step.entry in
      let outs : outstanding step.progress ≡ outstanding old = step_outstanding p old step (step_is m p step stepping).does in
      let kernel = kernel_less m.store next.store p added old.held (λ file held. sizes file) in
      let held : kernel_turns next.store (after p added) step.progress.held ≡ kernel_turns next.store (after p added) old.held =
      ap (kernel_turns next.store (after p added)) falls.held in
      let fewer = untouched_less p added (outstanding old) (outstanding step.progress)
      (λ number out. inl (ap (list_any (nat_eq number)) outs ∙ out)) in
      let turns = falls.falls in
      omega (arith, kernel, held, fewer, turns)
    where
      by : (file : ℕ) (o : Option Entry) → ((e : Entry) → o ≡ Some e → is_access_or_miss e ≡ true) →
          size_in (store_with m.store p.call o) file ≡ size_in m.store file
      by file None device = refl
      by file (Some e) device = device_size m.store p.call e file (device e refl)

      sizes : (file : ℕ) → size_in next.store file ≡ size_in m.store file
      sizes file = ap (λ (s : Store). size_in s file) store ∙ by file step.entry (step_keeps m p step stepping).0.device
