-- A call is told to wait only for another process that holds its file.
use Rattle.std.proofs.Common.{◌≡◌, ◌≢◌, ℕ, Bool, true, false, ◌&&◌, nat_eq, cond, List, [], ◌∷◌, Option, None, Some, refl, sym, ap, ◌∙◌, length, arith}
use Rattle.std.specs.List.{find}
use Rattle.std.specs.Option.{option_and_then, option_map, option_map_or, option_or}
use Rattle.std.proofs.lemmas.Bool.{eqb-true, false≢true}
use Rattle.std.proofs.lemmas.Bool.Decides.{nat_tests}
use Rattle.std.proofs.lemmas.List.Quantifiers.{position-Some}
use Rattle.std.proofs.lemmas.Option.{none-some, same_Some}
use Rattle.bd_base.specs.declared.key.Key.{Key}
use Rattle.bd_base.specs.declared.reason.Reason.{Reason}
use Rattle.bd_base.specs.declared.script.Call.{Call}
use Rattle.bd_base.specs.declared.script.Call.TheVariants.{Enter, Create, Read, Write, Truncate, Unlink, Size, Map, Close, RawRead, RawWrite}
use Rattle.bd_base.specs.declared.script.How.TheVariants as hows
use Rattle.bd_base.specs.Pieces.{Piece}
use Rattle.bd_entry.specs.declared.act.Act.{Act}
use Rattle.bd_entry.specs.declared.act.Act.TheVariants as acts
use Rattle.bd_entry.specs.Actions.{Holders, Running, access_piece, attach_by, attach_or_map, before_beginning, busy, busy_at_first, comes_before_holder, has_begun, is_for_device, is_none_of, is_to_shrink, is_untouched, kernel_part, keys_to_revoke, move_piece, next_act, open_file, own_act, piece_numbers, remove_file, revoke, submit_or_poll, tests_for_holder, truncate_to, wait_for, write_piece}
use Rattle.bd_entry.specs.Calls.{Place, does_write, fd_of, piece_end, piece_of_call}
use Rattle.bd_entry.specs.Refusals.{descriptor_of, file_of, first_refusal, growth_reason_of, is_next_for_kernel, next_size}
use Rattle.bd_entry.specs.Store.{Descriptor, Store, blocks_in, descriptor_at, lowest_fd, next_part, size_in}
use Rattle.bd_turns.specs.State.{State, does_hold, holder_of, new_progress, progress_of}

-- whether an action is a wait for a holder
abbrev pub is_busy : Act → Bool
is_busy (acts.Busy file holder) = true
is_busy act = false

-- ---- actions that are none

other_or : {X : Type 0} (act : X → Act) (o : Option X) (other : Act) → ((x : X) → is_busy (act x) ≡ false) → is_busy other ≡ false →
    is_busy (option_map_or act o other) ≡ false
other_or act None other each last = last
other_or act (Some x) other each last = each x

other_if : (b : Bool) (one other : Act) → is_busy one ≡ false → is_busy other ≡ false → is_busy (cond b one other) ≡ false
other_if true one other first second = first
other_if false one other first second = second

module _ (s : Store) (p : Place) where
  attach_other : (d : Descriptor) → is_busy (attach_or_map s d) ≡ false
  attach_other d = other_or acts.Attach (next_part s d) (acts.Mapped (length d.attached)) (λ part. refl) refl

  truncate_other : (size file : ℕ) → is_busy (truncate_to s p size file) ≡ false
  truncate_other size file =
      let grow : ℕ → Act = λ to. option_map_or (acts.Refuse None) (growth_reason_of s p size) (acts.Extend file to) in
      other_if (is_to_shrink s file size) (acts.Release file) _ refl
      (other_or grow (next_size (size_in s file) size) (acts.Sized size)
      (λ to. other_or (acts.Refuse None) (growth_reason_of s p size) (acts.Extend file to) (λ reason. refl) refl) refl)

  remove_other : (file : ℕ) → is_busy (remove_file s file) ≡ false
  remove_other file = other_if (is_none_of (blocks_in s file)) acts.Unlinked (acts.Release file) refl refl

  move_other : (number : ℕ) (piece : Piece) (d : Descriptor) → is_busy (move_piece s p number piece d) ≡ false
  move_other number piece d =
      let grow : ℕ → Act = λ to. option_map_or (acts.Refuse (Some number)) (growth_reason_of s p (piece_end piece)) (acts.Extend d.file to) in
      other_if (does_write p.call) (write_piece s p number piece d) (access_piece p number d)
      (other_or grow (next_size (size_in s d.file) (piece_end piece)) (access_piece p number d)
      (λ to. other_or (acts.Refuse (Some number)) (growth_reason_of s p (piece_end piece)) (acts.Extend d.file to) (λ reason. refl) refl)
      refl)
      refl

-- ---- where such a wait comes from

module _ (s : Store) (holders : Holders) (r : Running) where
  abbrev p : Place
  p = r.place

  -- the answer, if it is a wait for a holder, is that for the holder of the call's file
  abbrev pub Comes : Option Act → Type 0
  Comes o = (file holder : ℕ) → o ≡ Some (acts.Busy file holder) → busy s holders p ≡ Some (acts.Busy file holder)

  nothing : Comes None
  nothing file holder is = absurd (none-some (acts.Busy file holder) is)

  others : (act : Act) → is_busy act ≡ false → Comes (Some act)
  others act other file holder is = absurd (false≢true (sym other ∙ ap is_busy (same_Some act (acts.Busy file holder) is)))

  either : (a b : Option Act) → Comes a → Comes b → Comes (option_or a b)
  either None b first second = second
  either (Some act) b first second = first

  under : (b : Bool) (a c : Option Act) → Comes a → Comes c → Comes (cond b a c)
  under true a c first second = first
  under false a c first second = second

  mapped : {X : Type 0} (act : X → Act) (o : Option X) → ((x : X) → is_busy (act x) ≡ false) → Comes (option_map act o)
  mapped act None each = nothing
  mapped act (Some x) each = others (act x) (each x)

  chained : {X : Type 0} (act : X → Option Act) (o : Option X) → ((x : X) → Comes (act x)) → Comes (option_and_then act o)
  chained act None each = nothing
  chained act (Some x) each = each x

  waits : Comes (busy s holders p)
  waits file holder is = is

  waits_first : Comes (busy_at_first s holders p)
  waits_first = under (tests_for_holder p.call) (busy s holders p) None waits nothing

  begins : (o : Option Reason) → Comes (before_beginning s holders p o)
  begins None = waits_first
  begins (Some reason) =
      let refused : Option Act = Some (acts.Refuse None reason) in
      under (comes_before_holder reason) refused (option_or (busy_at_first s holders p) refused) (others (acts.Refuse None reason) refl)
      (either (busy_at_first s holders p) refused waits_first (others (acts.Refuse None reason) refl))

  revokes : (keys : List Key) → Comes (revoke keys)
  revokes [] = nothing
  revokes (key ∷ keys) = others (acts.Revoke (key ∷ keys)) refl

  attaches : (fd : ℕ) → Comes (attach_by s p fd)
  attaches fd = mapped (attach_or_map s) (descriptor_at s p.at.process fd) (attach_other s p)

  opens : Comes (open_file s p)
  opens =
      chained (λ file. option_map (acts.Opened file) (lowest_fd s p.at.process)) (file_of s p)
      (λ file. mapped (acts.Opened file) (lowest_fd s p.at.process) (λ fd. refl))

  enters : (o : Option ℕ) → Comes (option_map_or (attach_by s p) o (open_file s p))
  enters None = opens
  enters (Some fd) = attaches fd

  submits : Comes (submit_or_poll s r)
  submits =
      let next : Option ℕ = find (λ number. is_for_device s p number && is_untouched r number) (piece_numbers p.call) in
      either (option_map acts.Submit next) (cond (is_none_of r.outstanding) None (Some acts.Poll)) (mapped acts.Submit next (λ piece. refl))
      (under (is_none_of r.outstanding) None (Some acts.Poll) nothing (others acts.Poll refl))

  kernel : Comes (kernel_part s holders p)
  kernel =
      let move : ℕ → Piece → Option Act = λ number piece. option_map (move_piece s p number piece) (descriptor_of s p) in
      let act : ℕ → Option Act = λ number. option_and_then (move number) (piece_of_call p.call number) in
      chained (λ number. option_or (busy s holders p) (act number)) (find (is_next_for_kernel s p) (piece_numbers p.call))
      (λ number. either (busy s holders p) (act number) waits
      (chained (move number) (piece_of_call p.call number) (λ piece. mapped (move_piece s p number piece) (descriptor_of s p) (move_other s p number piece))))

  moves : Comes (option_or (submit_or_poll s r) (kernel_part s holders p))
  moves = either (submit_or_poll s r) (kernel_part s holders p) submits kernel

  owns : (call : Call) → Comes (own_act s holders r call)
  owns (Enter name mode hows.Direct) = enters (fd_of p)
  owns (Enter name mode hows.Plain) = opens
  owns (Create name perms) = others acts.Created refl
  owns (Read fd off len) = moves
  owns (Write fd off bytes) = moves
  owns (Truncate fd size) = mapped (truncate_to s p size) (file_of s p) (truncate_other s p size)
  owns (Unlink name) = mapped (remove_file s) (file_of s p) (remove_other s p)
  owns (Size fd) = mapped (λ file. acts.SizeRead (size_in s file)) (file_of s p) (λ file. refl)
  owns (Map fd) = attaches fd
  owns (Close fd) = others acts.Closed refl
  owns (RawRead address range) = submits
  owns (RawWrite address lo bytes) = submits

  pub next_waits : Comes (next_act s holders r)
  next_waits =
      let first : Option Reason = first_refusal s p.at.process p.call in
      let later : Option Act = option_or (revoke (keys_to_revoke s p p.call)) (own_act s holders r p.call) in
      either (cond (has_begun r) None (before_beginning s holders p first)) later
      (under (has_begun r) None (before_beginning s holders p first) nothing (begins first))
      (either (revoke (keys_to_revoke s p p.call)) (own_act s holders r p.call) (revokes (keys_to_revoke s p p.call)) (owns p.call))

-- ---- whom it names

-- the file is that of the call, and another process holds it, as its holders are told
pub record Names (s : Store) (holders : Holders) (p : Place) (file holder : ℕ) : Type 0 where
  pub file_is : file_of s p ≡ Some file
  pub holder_is : holders file ≡ Some holder
  pub another : holder ≢ p.at.process

pub busy_names : (s : Store) (holders : Holders) (p : Place) (file holder : ℕ) → busy s holders p ≡ Some (acts.Busy file holder) →
    Names s holders p file holder
busy_names s holders p file holder is = by (file_of s p) refl is
  where
    named : Act → ℕ
    named (acts.Busy file holder) = file
    named act = 0

    holding : Act → ℕ
    holding (acts.Busy file holder) = holder
    holding act = 0

    equal : (h q : ℕ) → h ≡ q → nat_eq h q ≡ true
    equal h q same = grind (arith, nat_tests)

    of : (f h : ℕ) (b : Bool) → nat_eq h p.at.process ≡ b → cond b None (Some (acts.Busy f h)) ≡ Some (acts.Busy file holder) →
        file_of s p ≡ Some f → holders f ≡ Some h → Names s holders p file holder
    of f h true same waits found held = absurd (none-some (acts.Busy file holder) waits)
    of f h false differ waits found held =
        let act : acts.Busy f h ≡ acts.Busy file holder = same_Some (acts.Busy f h) (acts.Busy file holder) waits in
        let f_is : f ≡ file = ap named act in
        let h_is : h ≡ holder = ap holding act in
        record {
          file_is = found ∙ ap Some f_is;
          holder_is = ap holders (sym f_is) ∙ held ∙ ap Some h_is;
          another = λ same. false≢true (sym differ ∙ equal h p.at.process (h_is ∙ same));
        }

    held : (f : ℕ) → file_of s p ≡ Some f → (o : Option ℕ) → holders f ≡ o → wait_for p.at.process f o ≡ Some (acts.Busy file holder) →
        Names s holders p file holder
    held f found None none waits = absurd (none-some (acts.Busy file holder) waits)
    held f found (Some h) holds waits = of f h (nat_eq h p.at.process) refl waits found holds

    by : (o : Option ℕ) → file_of s p ≡ o → option_and_then (λ f. wait_for p.at.process f (holders f)) o ≡ Some (acts.Busy file holder) →
        Names s holders p file holder
    by None none waits = absurd (none-some (acts.Busy file holder) waits)
    by (Some f) found waits = held f found (holders f) refl waits

-- the holder of a file holds it
pub holder_holds : (m : State) (file holder : ℕ) → holder_of m file ≡ Some holder → (progress_of m holder).held ≡ Some file
holder_holds m file holder is =
    by (progress_of m holder).held refl (position-Some (does_hold file) m.processes holder new_progress is).1
  where
    by : (o : Option ℕ) → (progress_of m holder).held ≡ o → option_map_or (nat_eq file) o false ≡ true → (progress_of m holder).held ≡ Some file
    by None none holds = absurd (false≢true holds)
    by (Some f) some holds = some ∙ ap Some (sym (eqb-true file f holds))
