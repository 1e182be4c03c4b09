-- What calls that are built do next: they revoke nothing, and poll only where a command is outstanding.
use Rattle.std.proofs.Common.{◌≡◌, ℕ, ◌<◌, Bool, true, false, ◌&&◌, cond, List, [], ◌∷◌, length, Option, None, Some, refl, sym, ap, subst, arith}
use Rattle.std.specs.Prelude.{All, slice_get}
use Rattle.std.specs.Option.{option_and_then, option_map, option_map_or, option_or}
use Rattle.std.specs.List.{find}
use Rattle.std.proofs.lemmas.Bool.{false≢true}
use Rattle.std.proofs.lemmas.Option.{none-some}
use Rattle.bd_base.specs.declared.key.Key.{Key}
use Rattle.bd_base.specs.declared.journal.At.{At}
use Rattle.bd_base.specs.declared.reason.Reason.{Reason}
use Rattle.bd_base.specs.declared.script.Call.{Call}
use Rattle.bd_base.specs.declared.script.Call.TheVariants.{Enter, Create, Read, Write, Size}
use Rattle.bd_base.specs.declared.script.How.TheVariants as hows
use Rattle.bd_base.specs.declared.script.Process.{Process as ScriptProcess}
use Rattle.bd_base.specs.declared.script.Script.{Script}
use Rattle.bd_base.specs.Pieces.{Piece}
use Rattle.bd_entry.specs.declared.act.Act.{Act}
use Rattle.bd_entry.specs.declared.act.Act.TheVariants as acts
use Rattle.bd_entry.specs.Actions.{Holders, Running, access_piece, attach_by, attach_or_map, before_beginning, busy, busy_at_first, comes_before_holder, has_begun, is_for_device, is_none_of, is_untouched, kernel_part, keys_to_revoke, move_piece, next_act, open_file, own_act, piece_numbers, revoke, submit_or_poll, tests_for_holder, wait_for, write_piece}
use Rattle.bd_entry.specs.Calls.{Place, call_at, does_write, fd_of, piece_end, piece_of_call}
use Rattle.bd_entry.specs.Refusals.{descriptor_of, file_of, first_refusal, growth_reason_of, is_next_for_kernel, next_size}
use Rattle.bd_entry.specs.Store.{Descriptor, Store, descriptor_at, lowest_fd, next_part, size_in}
use Rattle.bd_entry.proofs.CallPieces.{All-slice_get}
use Rattle.bd_machine.specs.declared.parts.Parts.{Parts}
use Rattle.bd_machine.specs.Turns.{AreBuilt, IsAt, is_built}
use Rattle.bd_turns.specs.State.{State, running}
use Rattle.bd_turns.proofs.OwnActs.{Fails, fails-map, fails-some, fails-then}
use Rattle.bd_turns.proofs.RunningPlaces.{runs_at}
use Rattle.bd_tables.specs.declared.sides.Tables as sides

-- ---- tests of what may be there

fails_or : {X : Type 0} (test : X → Bool) (a b : Option X) → Fails test a → Fails test b → Fails test (option_or a b)
fails_or test None b first second = second
fails_or test (Some x) b first second = first

of_map_or : {X Y : Type 0} (test : Y → Bool) (f : X → Y) (o : Option X) (none : Y) → ((x : X) → test (f x) ≡ false) → test none ≡ false →
    test (option_map_or f o none) ≡ false
of_map_or test f None none each empty = empty
of_map_or test f (Some x) none each empty = each x

of_cond : {Y : Type 0} (test : Y → Bool) (b : Bool) (x y : Y) → test x ≡ false → test y ≡ false → test (cond b x y) ≡ false
of_cond test true x y first second = first
of_cond test false x y first second = second

-- ---- acts that are not ordinary

-- whether the act revokes, or polls where that counts
abbrev is_odd : Bool → Act → Bool
is_odd polls (acts.Revoke keys) = true
is_odd polls acts.Poll = polls
is_odd polls act = false

-- a poll, if there is one, is not odd
abbrev PollsWell : Bool → Running → Type 0
PollsWell polls r = Fails (is_odd polls) (cond (is_none_of r.outstanding) None (Some acts.Poll))

module _ (polls : Bool) (s : Store) (holders : Holders) (r : Running) (well : PollsWell polls r) where
  abbrev p : Place
  p = r.place

  abbrev odd : Option Act → Bool
  odd o = option_map_or (is_odd polls) o false

  waiting : (file : ℕ) (o : Option ℕ) → Fails (is_odd polls) (wait_for p.at.process file o)
  waiting file None = refl
  waiting file (Some holder) = of_cond odd _ None (Some (acts.Busy file holder)) refl refl

  busy_ordinary : Fails (is_odd polls) (busy s holders p)
  busy_ordinary =
      fails-then (is_odd polls) (λ file. wait_for p.at.process file (holders file)) (file_of s p) (λ file. waiting file (holders file))

  first_ordinary : Fails (is_odd polls) (busy_at_first s holders p)
  first_ordinary = of_cond odd (tests_for_holder p.call) (busy s holders p) None busy_ordinary refl

  beginning : (o : Option Reason) → Fails (is_odd polls) (before_beginning s holders p o)
  beginning None = first_ordinary
  beginning (Some reason) =
      of_cond odd (comes_before_holder reason) (Some (acts.Refuse None reason))
      (option_or (busy_at_first s holders p) (Some (acts.Refuse None reason))) refl
      (fails_or (is_odd polls) (busy_at_first s holders p) (Some (acts.Refuse None reason)) first_ordinary refl)

  attaching : (fd : ℕ) → Fails (is_odd polls) (attach_by s p fd)
  attaching fd =
      fails-map (is_odd polls) (attach_or_map s) (descriptor_at s p.at.process fd)
      (λ d. of_map_or (is_odd polls) acts.Attach (next_part s d) (acts.Mapped (length d.attached)) (λ part. refl) refl)

  opening : Fails (is_odd polls) (open_file s p)
  opening =
      fails-then (is_odd polls) (λ file. option_map (acts.Opened file) (lowest_fd s p.at.process)) (file_of s p)
      (λ file. fails-map (is_odd polls) (acts.Opened file) (lowest_fd s p.at.process) (λ fd. refl))

  submitting : Fails (is_odd polls) (submit_or_poll s r)
  submitting =
      fails_or (is_odd polls)
      (option_map acts.Submit (find (λ number. is_for_device s r.place number && is_untouched r number) (piece_numbers r.place.call)))
      (cond (is_none_of r.outstanding) None (Some acts.Poll))
      (fails-map (is_odd polls) acts.Submit
      (find (λ number. is_for_device s r.place number && is_untouched r number) (piece_numbers r.place.call)) (λ number. refl)) well

  writing : (number : ℕ) (piece : Piece) (d : Descriptor) → is_odd polls (write_piece s p number piece d) ≡ false
  writing number piece d =
      of_map_or (is_odd polls) (λ to. option_map_or (acts.Refuse (Some number)) (growth_reason_of s p (piece_end piece)) (acts.Extend d.file to))
      (next_size (size_in s d.file) (piece_end piece)) (access_piece p number d)
      (λ to. of_map_or (is_odd polls) (acts.Refuse (Some number)) (growth_reason_of s p (piece_end piece)) (acts.Extend d.file to) (λ reason. refl) refl)
      refl

  moving : Fails (is_odd polls) (kernel_part s holders p)
  moving =
      let piece_act : ℕ → Option Act =
      λ number. option_and_then (λ piece. option_map (move_piece s p number piece) (descriptor_of s p)) (piece_of_call p.call number) in
      fails-then (is_odd polls) (λ number. option_or (busy s holders p) (piece_act number)) (find (is_next_for_kernel s p) (piece_numbers p.call))
      (λ number.
      fails_or (is_odd polls) (busy s holders p) (piece_act number) busy_ordinary
      (fails-then (is_odd polls) (λ piece. option_map (move_piece s p number piece) (descriptor_of s p)) (piece_of_call p.call number)
      (λ piece.
      fails-map (is_odd polls) (move_piece s p number piece) (descriptor_of s p)
      (λ d. of_cond (is_odd polls) (does_write p.call) (write_piece s p number piece d) (access_piece p number d) (writing number piece d) refl))))

  own : (call : Call) → is_built call ≡ true → Fails (is_odd polls) (own_act s holders r call)
  own (Enter name mode hows.Direct) built =
      of_map_or odd (attach_by s r.place) (fd_of r.place) (open_file s r.place) attaching opening
  own (Enter name mode hows.Plain) built = absurd (false≢true built)
  own (Create name perms) built = refl
  own (Read fd off len) built = fails_or (is_odd polls) (submit_or_poll s r) (kernel_part s holders p) submitting moving
  own (Write fd off bytes) built = fails_or (is_odd polls) (submit_or_poll s r) (kernel_part s holders p) submitting moving
  own (Size fd) built = fails-map (is_odd polls) (λ file. acts.SizeRead (size_in s file)) (file_of s p) (λ file. refl)
  own call built = absurd (false≢true built)

  revoking : (call : Call) → is_built call ≡ true → Fails (is_odd polls) (revoke (keys_to_revoke s p call))
  revoking (Enter name mode hows.Direct) built = refl
  revoking (Enter name mode hows.Plain) built = absurd (false≢true built)
  revoking (Create name perms) built = refl
  revoking (Read fd off len) built = refl
  revoking (Write fd off bytes) built = refl
  revoking (Size fd) built = refl
  revoking call built = absurd (false≢true built)

  ordinary : (act : Act) → is_built p.call ≡ true → next_act s holders r ≡ Some act → is_odd polls act ≡ false
  ordinary act built next =
      let reason = first_refusal s p.at.process p.call in
      fails-some (is_odd polls) (next_act s holders r) act
      (fails_or (is_odd polls) (cond (has_begun r) None (before_beginning s holders p reason))
      (option_or (revoke (keys_to_revoke s p p.call)) (own_act s holders r p.call))
      (of_cond odd (has_begun r) None (before_beginning s holders p reason) refl (beginning reason))
      (fails_or (is_odd polls) (revoke (keys_to_revoke s p p.call)) (own_act s holders r p.call) (revoking p.call built) (own p.call built)))
      next

-- a call that is built revokes nothing
pub revokes_nothing : (s : Store) (holders : Holders) (r : Running) (keys : List Key) → is_built r.place.call ≡ true →
    next_act s holders r ≡ Some (acts.Revoke keys) → ⊥
revokes_nothing s holders r keys built next =
    false≢true
    (sym (ordinary false s holders r
    (of_cond (λ (o : Option Act). option_map_or (is_odd false) o false) (is_none_of r.outstanding) None (Some acts.Poll) refl refl)
    (acts.Revoke keys) built next))

-- one that polls has a command outstanding
pub polls_some : (s : Store) (holders : Holders) (r : Running) → is_built r.place.call ≡ true → next_act s holders r ≡ Some acts.Poll →
    0 < length r.outstanding
polls_some s holders r built next = by r.outstanding refl
  where
    by : (outstanding : List ℕ) → r.outstanding ≡ outstanding → 0 < length r.outstanding
    by [] none =
        absurd
        (false≢true
        (sym (ordinary true s holders r
        (ap (λ (l : List ℕ). option_map_or (is_odd true) (cond (is_none_of l) None (Some acts.Poll)) false) none) acts.Poll built next)))
    by (piece ∷ pieces) is = let count : length r.outstanding ≡ length (piece ∷ pieces) = ap (λ (l : List ℕ). length l) is in omega (arith, count)

-- ---- the calls of a script that is built

built_at : (script : Script) (at : At) (call : Call) → AreBuilt script → call_at script at ≡ Some call → is_built call ≡ true
built_at script at call built called = by (slice_get script.processes at.process) refl called
  where
    by : (o : Option ScriptProcess) → slice_get script.processes at.process ≡ o →
        slice_get (option_map_or (λ (p : ScriptProcess). p.calls) o []) at.call ≡ Some call → is_built call ≡ true
    by None none is = absurd (none-some call is)
    by (Some p) there is =
        All-slice_get (λ (call : Call). is_built call ≡ true) p.calls at.call call
        (All-slice_get (λ (p : ScriptProcess). All (λ (call : Call). is_built call ≡ true) p.calls) script.processes at.process p built there) is

-- so is that of a process of a machine
pub built_here : {T M P : Type 0} {K : sides.Ghosts T P} (script : Script) (x : Parts T M P) (m : State) (process : ℕ) (p : Place) → IsAt K script x m →
    running m process ≡ Some p → is_built p.call ≡ true
built_here script x m process p is runs =
    built_at m.script p.at p.call (subst AreBuilt (sym is.shows.script_is) is.built) (runs_at m process p runs).called
