-- A running call has a next action, whoever holds its file.
use Rattle.std.proofs.Common.{◌≡◌, ℕ, ◌<◌, Bool, true, false, ◌&&◌, cond, List, [], ◌∷◌, length, Option, None, Some, refl, sym, ap, ◌∙◌, arith, ⊎_elim}
use Rattle.std.specs.Prelude.{All, is_some}
use Rattle.std.specs.Option.{option_and_then, option_map, option_or}
use Rattle.std.specs.List.{find}
use Rattle.std.proofs.lemmas.Bool.{cases_Bool, false≢true}
use Rattle.std.proofs.lemmas.List.Elements.{All-head}
use Rattle.bd_base.specs.declared.reason.Reason.{Reason}
use Rattle.bd_base.specs.declared.script.Call.{Call}
use Rattle.bd_base.specs.declared.script.Call.TheVariants.{Enter, Read, Write}
use Rattle.bd_base.specs.declared.script.How.TheVariants as hows
use Rattle.bd_base.specs.declared.volume.Volume.{Volume}
use Rattle.bd_entry.specs.declared.act.Act.{Act}
use Rattle.bd_entry.specs.declared.act.Act.TheVariants as acts
use Rattle.bd_entry.specs.Actions.{Holders, Running, before_beginning, busy, busy_at_first, comes_before_holder, has_begun, is_none_of, kernel_part, keys_to_revoke, move_piece, next_act, own_act, piece_numbers, revoke, submit_or_poll, tests_for_holder, wait_for}
use Rattle.bd_entry.specs.Calls.{Place, fd_of_call, is_ended_by, piece_of_call, pieces_of_call}
use Rattle.bd_entry.specs.Refusals.{descriptor_of, file_of, first_refusal, is_next_for_kernel}
use Rattle.bd_entry.specs.Store.{Store, work_of}
use Rattle.bd_entry.proofs.HistoryLaws.{work_is_of_running_call}
use Rattle.bd_entry.proofs.Slots.{some_of}
use Rattle.bd_turns.specs.Processors.{running_of}
use Rattle.bd_turns.specs.Reached.{IsReached}
use Rattle.bd_turns.specs.State.{State, holder_of, outstanding, progress_of, running}
use Rattle.bd_turns.proofs.CallsGoOn.{MayGoOn, next_there, with_commands}
use Rattle.bd_turns.proofs.NextActsThere.{IsDone}
use Rattle.bd_turns.proofs.OpenDescriptors.{descriptors_are_open}
use Rattle.bd_turns.proofs.RunningPlaces.{next_call, ready, runs_at}

-- ---- where nobody holds a file

abbrev pub nobody : Holders
nobody = λ file. None

pub free : (s : Store) (p : Place) → busy s nobody p ≡ None
free s p = by (file_of s p)
  where
    by : (o : Option ℕ) → option_and_then (λ file. wait_for p.at.process file None) o ≡ None
    by None = refl
    by (Some file) = refl

some_or : (a b c d : Option Act) → (is_some a ≡ true → is_some c ≡ true) → (is_some b ≡ true → is_some d ≡ true) →
    is_some (option_or a b) ≡ true → is_some (option_or c d) ≡ true
some_or (Some a) b (Some c) d first second is = refl
some_or (Some a) b None d first second is = absurd (false≢true (first refl))
some_or None b (Some c) d first second is = refl
some_or None b None d first second is = second is

-- an action that a call has where nobody holds its file it has, or waits, where somebody does
module _ (s : Store) (holders : Holders) where
  kernel_some : (p : Place) → is_some (kernel_part s nobody p) ≡ true → is_some (kernel_part s holders p) ≡ true
  kernel_some p is = by (find (is_next_for_kernel s p) (piece_numbers p.call)) is
    where
      move : ℕ → Option Act
      move number = option_and_then (λ piece. option_map (move_piece s p number piece) (descriptor_of s p)) (piece_of_call p.call number)

      by : (o : Option ℕ) → is_some (option_and_then (λ number. option_or (busy s nobody p) (move number)) o) ≡ true →
          is_some (option_and_then (λ number. option_or (busy s holders p) (move number)) o) ≡ true
      by None none = absurd (false≢true none)
      by (Some number) some =
          some_or (busy s nobody p) (move number) (busy s holders p) (move number)
          (λ waits. absurd (false≢true (sym (ap (λ (o : Option Act). is_some o) (free s p)) ∙ waits))) (λ moves. moves) some

  own_some : (r : Running) (call : Call) → is_some (own_act s nobody r call) ≡ true → is_some (own_act s holders r call) ≡ true
  own_some r (Read fd off len) is =
      some_or (submit_or_poll s r) (kernel_part s nobody r.place) (submit_or_poll s r) (kernel_part s holders r.place)
      (λ same. same) (kernel_some r.place) is
  own_some r (Write fd off bytes) is =
      some_or (submit_or_poll s r) (kernel_part s nobody r.place) (submit_or_poll s r) (kernel_part s holders r.place)
      (λ same. same) (kernel_some r.place) is
  own_some r (Enter name mode hows.Direct) is = is
  own_some r (Enter name mode hows.Plain) is = is
  own_some r call is = is

  first_some : (p : Place) (o : Option Reason) → is_some (before_beginning s nobody p o) ≡ true →
      is_some (before_beginning s holders p o) ≡ true
  first_some p None is = absurd (by (tests_for_holder p.call) is)
    where
      by : (b : Bool) → is_some (cond b (busy s nobody p) None) ≡ true → ⊥
      by true some = false≢true (sym (ap (λ (o : Option Act). is_some o) (free s p)) ∙ some)
      by false none = false≢true none
  first_some p (Some reason) is = by (comes_before_holder reason) (busy_at_first s holders p)
    where
      by : (b : Bool) (o : Option Act) →
          is_some (cond b (Some (acts.Refuse None reason)) (option_or o (Some (acts.Refuse None reason)))) ≡ true
      by true o = refl
      by false None = refl
      by false (Some act) = refl

  next_some : (r : Running) → is_some (next_act s nobody r) ≡ true → is_some (next_act s holders r) ≡ true
  next_some r is =
      let keys = revoke (keys_to_revoke s r.place r.place.call) in
      let reason = first_refusal s r.place.at.process r.place.call in
      some_or (cond (has_begun r) None (before_beginning s nobody r.place reason)) (option_or keys (own_act s nobody r r.place.call))
      (cond (has_begun r) None (before_beginning s holders r.place reason)) (option_or keys (own_act s holders r r.place.call))
      (by (has_begun r))
      (some_or keys (own_act s nobody r r.place.call) keys (own_act s holders r r.place.call) (λ same. same) (own_some r r.place.call))
      is
    where
      by : (b : Bool) → is_some (cond b None (before_beginning s nobody r.place (first_refusal s r.place.at.process r.place.call))) ≡ true →
          is_some (cond b None (before_beginning s holders r.place (first_refusal s r.place.at.process r.place.call))) ≡ true
      by true none = absurd (false≢true none)
      by false some = first_some r.place (first_refusal s r.place.at.process r.place.call) some

-- ---- a running call

some_piece : (n : ℕ) (list : List ℕ) → is_none_of list ≡ false → All (λ piece. piece < n) list → 0 < n
some_piece n [] some all = absurd (false≢true (sym some))
some_piece n (piece ∷ pieces) some all =
    let below : piece < n = All-head (λ piece. piece < n) piece pieces all in omega arith

unfinished : (a b : Bool) → (a && b) ≡ false → b ≡ true → a ≡ false
unfinished true true ended none = absurd (false≢true (sym ended))
unfinished true false ended none = absurd (false≢true none)
unfinished false b ended none = refl

-- it goes on where nobody holds its file
pub goes_on : (v : Volume) (m : State) (p : Place) → IsReached v m → running m p.at.process ≡ Some p →
    IsDone m.store (running_of m p) (next_act m.store nobody (running_of m p))
goes_on v m p reached is = ⊎_elim without with (cases_Bool (is_none_of (outstanding (progress_of m p.at.process))))
  where
    with : is_none_of (outstanding (progress_of m p.at.process)) ≡ false → IsDone m.store (running_of m p) (next_act m.store nobody (running_of m p))
    with some =
        with_commands m.store nobody p.call p.at p.before (outstanding (progress_of m p.at.process)) some
        (some_piece (length (pieces_of_call p.call)) (outstanding (progress_of m p.at.process)) some
        (reached.sound.calls.commands.of_running p.at.process p is).pieces)

    without : is_none_of (outstanding (progress_of m p.at.process)) ≡ true → IsDone m.store (running_of m p) (next_act m.store nobody (running_of m p))
    without none =
        let ended : is_ended_by p.call p.before ≡ false =
        unfinished (is_ended_by p.call p.before) (is_none_of (outstanding (progress_of m p.at.process)))
        (reached.sound.calls.unended p.at.process p is) none in
        let runs = runs_at m p.at.process p is in
        let next = next_call m p runs reached.sound.calls.in_turn ended in
        let work : work_of m.store p.at.process ≡ p.before =
        work_is_of_running_call v m.script m.journal m.store p.at reached.history next ∙ sym runs.before_is in
        let may : MayGoOn m.store nobody p.call p.at p.before (outstanding (progress_of m p.at.process)) =
        record {
          none = none;
          free = free m.store p;
          ready = ready v m p reached is ended;
          allowed = λ keeps begun. reached.sound.holds_are.allowed p.at.process p is keeps begun;
          opened = λ does some fd named.
              descriptors_are_open v m.script m.journal m.store reached.history p.at p.call fd runs.called next does
              (λ empty. some (sym work ∙ empty)) (ap (fd_of_call p.call) work ∙ named);
        } in
        next_there m.store nobody p.at p.before (outstanding (progress_of m p.at.process)) p.call may

-- it has a next action
pub acts_next : (v : Volume) (m : State) (p : Place) → IsReached v m → running m p.at.process ≡ Some p →
    (act : Act) × (next_act m.store (holder_of m) (running_of m p) ≡ Some act)
acts_next v m p reached is =
    let done = goes_on v m p reached is in
    some_of (next_act m.store (holder_of m) (running_of m p))
    (next_some m.store (holder_of m) (running_of m p) (ap (λ (o : Option Act). is_some o) done.1))
