-- An act that revokes keys is that of a call that has them to revoke, and one that submits a piece that of a call whose
-- piece is still to be submitted.
use Rattle.std.proofs.Common.{◌≡◌, ◌⊎◌, inl, inr, ℕ, Bool, true, false, not, ◌&&◌, cond, List, [], ◌∷◌, length, Option, None, Some, refl, sym, ap, ◌∙◌, ⊎_elim}
use Rattle.std.specs.Prelude.{nat_eq}
use Rattle.std.specs.Option.{option_and_then, option_map, option_map_or, option_or}
use Rattle.std.specs.List.{find}
use Rattle.std.proofs.lemmas.Bool.{both_ways, false≢true}
use Rattle.std.proofs.lemmas.Option.{none-some, same_Some}
use Rattle.bd_base.specs.declared.key.Key.{Key}
use Rattle.bd_base.specs.declared.reason.Reason.{Reason}
use Rattle.bd_base.specs.declared.script.Call.{Call}
use Rattle.bd_base.specs.declared.script.Call.TheVariants.{Enter, Create, Read, Write, Truncate, Unlink, Size, Map, Close, RawRead, RawWrite}
use Rattle.bd_base.specs.declared.script.How.TheVariants as hows
use Rattle.bd_base.specs.Pieces.{Piece}
use Rattle.bd_entry.specs.declared.act.Act.{Act}
use Rattle.bd_entry.specs.declared.act.Act.TheVariants as acts
use Rattle.bd_entry.specs.declared.entry.Entry.{Entry}
use Rattle.bd_entry.specs.Actions.{Holders, Running, attach_by, attach_or_map, before_beginning, busy, busy_at_first, comes_before_holder, has_begun, is_for_device, is_none_of, is_to_shrink, is_untouched, kernel_part, keys_to_revoke, move_piece, next_act, open_file, own_act, piece_numbers, remove_file, revoke, submit_or_poll, tests_for_holder, truncate_to, wait_for, write_piece, access_piece}
use Rattle.bd_entry.specs.Calls.{Place, does_write, fd_of, piece_end, piece_of_call}
use Rattle.bd_entry.specs.Refusals.{descriptor_of, file_of, first_refusal, growth_reason_of, is_next_for_kernel, next_size}
use Rattle.bd_entry.specs.RulesOfContents.{MayBegin}
use Rattle.bd_entry.specs.Store.{Descriptor, Store, blocks_in, descriptor_at, lowest_fd, next_part, size_in}
use Rattle.bd_entry.proofs.NextActs.{map_from, or_from_either}
use Rattle.bd_turns.proofs.ActionsOfCalls.{beginning_none}

-- whether the act revokes keys, submits or polls
abbrev is_special : Act → Bool
is_special (acts.Revoke keys) = true
is_special (acts.Submit piece) = true
is_special acts.Poll = true
is_special act = false

-- an act, if there is one, is another
abbrev IsOrdinary : Option Act → Type 0
IsOrdinary o = (act : Act) → o ≡ Some act → is_special act ≡ false

none_ordinary : IsOrdinary None
none_ordinary act is = absurd (none-some act is)

some_ordinary : (only : Act) → is_special only ≡ false → IsOrdinary (Some only)
some_ordinary only ordinary act is = ap is_special (sym (same_Some only act is)) ∙ ordinary

-- ---- acts of an option

map_ordinary : {X : Type 0} (f : X → Act) (o : Option X) → ((x : X) → is_special (f x) ≡ false) → IsOrdinary (option_map f o)
map_ordinary f None each = none_ordinary
map_ordinary f (Some x) each = some_ordinary (f x) (each x)

then_ordinary : {X : Type 0} (f : X → Option Act) (o : Option X) → ((x : X) → IsOrdinary (f x)) →
    IsOrdinary (option_and_then f o)
then_ordinary f None each = none_ordinary
then_ordinary f (Some x) each = each x

map_or_ordinary : {X : Type 0} (f : X → Option Act) (o : Option X) (other : Option Act) → ((x : X) → IsOrdinary (f x)) →
    IsOrdinary other → IsOrdinary (option_map_or f o other)
map_or_ordinary f None other each else = else
map_or_ordinary f (Some x) other each else = each x

or_ordinary : (o other : Option Act) → IsOrdinary o → IsOrdinary other → IsOrdinary (option_or o other)
or_ordinary None other first else = else
or_ordinary (Some x) other first else = first

cond_ordinary : (b : Bool) (one other : Option Act) → IsOrdinary one → IsOrdinary other → IsOrdinary (cond b one other)
cond_ordinary true one other first else = first
cond_ordinary false one other first else = else

of_option : {X : Type 0} (f : X → Act) (o : Option X) (other : Act) → ((x : X) → is_special (f x) ≡ false) →
    is_special other ≡ false → is_special (option_map_or f o other) ≡ false
of_option f None other each else = else
of_option f (Some x) other each else = each x

of_cond : (b : Bool) (one other : Act) → is_special one ≡ false → is_special other ≡ false → is_special (cond b one other) ≡ false
of_cond true one other first else = first
of_cond false one other first else = else

-- ---- the acts of each call

busy_ordinary : (s : Store) (holders : Holders) (p : Place) → IsOrdinary (busy s holders p)
busy_ordinary s holders p =
    then_ordinary (λ file. wait_for p.at.process file (holders file)) (file_of s p) (λ file. waits file (holders file))
  where
    waits : (file : ℕ) (o : Option ℕ) → IsOrdinary (wait_for p.at.process file o)
    waits file None = none_ordinary
    waits file (Some holder) =
        cond_ordinary (nat_eq holder p.at.process) None (Some (acts.Busy file holder)) none_ordinary
        (some_ordinary (acts.Busy file holder) refl)

first_ordinary : (s : Store) (holders : Holders) (p : Place) → IsOrdinary (busy_at_first s holders p)
first_ordinary s holders p =
    cond_ordinary (tests_for_holder p.call) (busy s holders p) None (busy_ordinary s holders p) none_ordinary

beginning_ordinary : (s : Store) (holders : Holders) (p : Place) (o : Option Reason) → IsOrdinary (before_beginning s holders p o)
beginning_ordinary s holders p None = first_ordinary s holders p
beginning_ordinary s holders p (Some reason) =
    let refused = Some (acts.Refuse None reason) in
    cond_ordinary (comes_before_holder reason) refused (option_or (busy_at_first s holders p) refused)
    (some_ordinary (acts.Refuse None reason) refl)
    (or_ordinary (busy_at_first s holders p) refused (first_ordinary s holders p)
    (some_ordinary (acts.Refuse None reason) refl))

open_ordinary : (s : Store) (p : Place) → IsOrdinary (open_file s p)
open_ordinary s p =
    then_ordinary (λ file. option_map (acts.Opened file) (lowest_fd s p.at.process)) (file_of s p)
    (λ file. map_ordinary (acts.Opened file) (lowest_fd s p.at.process) (λ fd. refl))

attach_ordinary : (s : Store) (p : Place) (fd : ℕ) → IsOrdinary (attach_by s p fd)
attach_ordinary s p fd =
    map_ordinary (attach_or_map s) (descriptor_at s p.at.process fd)
    (λ d. of_option acts.Attach (next_part s d) (acts.Mapped (length d.attached)) (λ part. refl) refl)

move_ordinary : (s : Store) (p : Place) (number : ℕ) (piece : Piece) (d : Descriptor) →
    is_special (move_piece s p number piece d) ≡ false
move_ordinary s p number piece d =
    of_cond (does_write p.call) (write_piece s p number piece d) (access_piece p number d)
    (of_option
    (λ to. option_map_or (acts.Refuse (Some number)) (growth_reason_of s p (piece_end piece)) (acts.Extend d.file to))
    (next_size (size_in s d.file) (piece_end piece)) (access_piece p number d)
    (λ to. of_option (acts.Refuse (Some number)) (growth_reason_of s p (piece_end piece)) (acts.Extend d.file to) (λ reason. refl) refl)
    refl)
    refl

kernel_ordinary : (s : Store) (holders : Holders) (p : Place) → IsOrdinary (kernel_part s holders p)
kernel_ordinary s holders p =
    then_ordinary _ (find (is_next_for_kernel s p) (piece_numbers p.call))
    (λ number. or_ordinary (busy s holders p) _ (busy_ordinary s holders p)
    (then_ordinary (λ piece. option_map (move_piece s p number piece) (descriptor_of s p)) (piece_of_call p.call number)
    (λ piece. map_ordinary (move_piece s p number piece) (descriptor_of s p) (move_ordinary s p number piece))))

truncate_ordinary : (s : Store) (p : Place) (size file : ℕ) → is_special (truncate_to s p size file) ≡ false
truncate_ordinary s p size file =
    of_cond (is_to_shrink s file size) (acts.Release file) _ refl
    (of_option
    (λ to. option_map_or (acts.Refuse None) (growth_reason_of s p size) (acts.Extend file to)) (next_size (size_in s file) size)
    (acts.Sized size)
    (λ to. of_option (acts.Refuse None) (growth_reason_of s p size) (acts.Extend file to) (λ reason. refl) refl)
    refl)

moves : (s : Store) (holders : Holders) (r : Running) (act : Act) → option_or (submit_or_poll s r) (kernel_part s holders r.place) ≡ Some act →
    is_special act ≡ true → submit_or_poll s r ≡ Some act
moves s holders r act is special =
    ⊎_elim
    (λ submits. submits)
    (λ kernel. absurd (both_ways (is_special act) (kernel_ordinary s holders r.place act kernel.1) special))
    (or_from_either (submit_or_poll s r) (kernel_part s holders r.place) act is)

-- a call's own act is to submit or poll, or an ordinary one
own_special : (s : Store) (holders : Holders) (r : Running) (call : Call) (act : Act) → own_act s holders r call ≡ Some act →
    is_special act ≡ true → submit_or_poll s r ≡ Some act
own_special s holders r (Read fd off len) act is special = moves s holders r act is special
own_special s holders r (Write fd off bytes) act is special = moves s holders r act is special
own_special s holders r (RawRead address range) act is special = is
own_special s holders r (RawWrite address lo bytes) act is special = is
own_special s holders r (Enter name mode hows.Direct) act is special =
    absurd
    (both_ways (is_special act)
    (map_or_ordinary (attach_by s r.place) (fd_of r.place) (open_file s r.place) (attach_ordinary s r.place) (open_ordinary s r.place) act is)
    special)
own_special s holders r (Enter name mode hows.Plain) act is special = absurd (both_ways (is_special act) (open_ordinary s r.place act is) special)
own_special s holders r (Create name perms) act is special =
    absurd (both_ways (is_special act) (some_ordinary acts.Created refl act is) special)
own_special s holders r (Truncate fd size) act is special =
    absurd
    (both_ways (is_special act)
    (map_ordinary (truncate_to s r.place size) (file_of s r.place) (truncate_ordinary s r.place size) act is) special)
own_special s holders r (Unlink name) act is special =
    absurd
    (both_ways (is_special act)
    (map_ordinary (remove_file s) (file_of s r.place)
    (λ file. of_cond (is_none_of (blocks_in s file)) acts.Unlinked (acts.Release file) refl refl) act is)
    special)
own_special s holders r (Size fd) act is special =
    absurd
    (both_ways (is_special act)
    (map_ordinary (λ file. acts.SizeRead (size_in s file)) (file_of s r.place) (λ file. refl) act is) special)
own_special s holders r (Map fd) act is special = absurd (both_ways (is_special act) (attach_ordinary s r.place fd act is) special)
own_special s holders r (Close fd) act is special = absurd (both_ways (is_special act) (some_ordinary acts.Closed refl act is) special)

-- ---- what comes once a call may begin

-- what is tested as a call begins
pub tested : (before : List Entry) (outstanding : List ℕ) (o : Option Act) (act : Act) →
    cond (not (is_none_of before && is_none_of outstanding)) None o ≡ Some act → (before ≡ []) × (outstanding ≡ []) × (o ≡ Some act)
tested [] [] o act is = (refl, refl, is)
tested [] (x ∷ xs) o act is = absurd (none-some act is)
tested (x ∷ xs) outstanding o act is = absurd (none-some act is)

-- what was passed
pub passed : (before : List Entry) (outstanding : List ℕ) (o : Option Act) →
    cond (not (is_none_of before && is_none_of outstanding)) None o ≡ None → outstanding ≡ [] → before ≡ [] → o ≡ None
passed [] [] o is none empty = is
passed [] (x ∷ xs) o is none empty = absurd (let no : x ∷ xs ≡ [] = none in cc)
passed (x ∷ xs) outstanding o is none empty = absurd (let no : x ∷ xs ≡ [] = empty in cc)

-- what a call does once it may begin: nothing keeps it, and it revokes keys or does its own act
pub record GoesOn (s : Store) (holders : Holders) (r : Running) (act : Act) : Type 0 where
  pub free : r.outstanding ≡ [] → r.place.before ≡ [] →
      before_beginning s holders r.place (first_refusal s r.place.at.process r.place.call) ≡ None
  pub may_begin : r.outstanding ≡ [] → MayBegin s r.place
  pub act_is : option_or (revoke (keys_to_revoke s r.place r.place.call)) (own_act s holders r r.place.call) ≡ Some act

-- what keeps a call from beginning
pub record IsKept (s : Store) (holders : Holders) (r : Running) (act : Act) : Type 0 where
  pub no_entry : r.place.before ≡ []
  pub no_command : r.outstanding ≡ []
  pub act_is : before_beginning s holders r.place (first_refusal s r.place.at.process r.place.call) ≡ Some act

-- each act is one of these
pub next_act-cases : (s : Store) (holders : Holders) (r : Running) (act : Act) → next_act s holders r ≡ Some act →
    IsKept s holders r act ⊎ GoesOn s holders r act
next_act-cases s holders r act is =
    let p = r.place in
    let first = before_beginning s holders p (first_refusal s p.at.process p.call) in
    ⊎_elim
    (λ begins.
    let at_first = tested p.before r.outstanding first act begins in
    inl (record { no_entry = at_first.0; no_command = at_first.1; act_is = at_first.2 }))
    (λ goes_on.
    inr (record {
      free = passed p.before r.outstanding first goes_on.0;
      may_begin = λ none empty.
          (beginning_none s holders p (first_refusal s p.at.process p.call)
          (passed p.before r.outstanding first goes_on.0 none empty)).0;
      act_is = goes_on.1;
    }))
    (or_from_either (cond (has_begun r) None first) (option_or (revoke (keys_to_revoke s p p.call)) (own_act s holders r p.call)) act is)

-- ---- revocations

-- the keys that are revoked are those that the call has to revoke, once it may begin
pub record RevokesKeys (s : Store) (holders : Holders) (r : Running) (keys : List Key) : Type 0 where
  pub goes_on : GoesOn s holders r (acts.Revoke keys)
  pub keys_are : keys_to_revoke s r.place r.place.call ≡ keys

-- a submission is that of the first piece for the device that is untouched
pub record SubmitsPiece (s : Store) (r : Running) (number : ℕ) : Type 0 where
  pub found : find (λ number. is_for_device s r.place number && is_untouched r number) (piece_numbers r.place.call) ≡ Some number

-- the piece that an act submits
abbrev submitted_by : Act → Option ℕ
submitted_by (acts.Submit number) = Some number
submitted_by act = None

submit_or_poll-submits : (s : Store) (r : Running) (number : ℕ) → submit_or_poll s r ≡ Some (acts.Submit number) → SubmitsPiece s r number
submit_or_poll-submits s r number is =
    let numbers = find (λ number. is_for_device s r.place number && is_untouched r number) (piece_numbers r.place.call) in
    ⊎_elim
    (λ submits.
    let found = map_from acts.Submit numbers (acts.Submit number) submits in
    record { found = found.1 ∙ ap submitted_by found.2 })
    (λ polls. absurd (no_poll (is_none_of r.outstanding) polls.1))
    (or_from_either (option_map acts.Submit numbers) (cond (is_none_of r.outstanding) None (Some acts.Poll)) (acts.Submit number) is)
  where
    no_poll : (b : Bool) → cond b None (Some acts.Poll) ≡ Some (acts.Submit number) → ⊥
    no_poll true same = none-some (acts.Submit number) same
    no_poll false same = none-some number (ap submitted_by (same_Some acts.Poll (acts.Submit number) same))

-- nothing is revoked by it
submit_or_poll-revokes : (s : Store) (r : Running) (keys : List Key) → submit_or_poll s r ≡ Some (acts.Revoke keys) → ⊥
submit_or_poll-revokes s r keys is =
    let numbers = find (λ number. is_for_device s r.place number && is_untouched r number) (piece_numbers r.place.call) in
    ⊎_elim {C = ⊥}
    (λ submits.
    let found = map_from acts.Submit numbers (acts.Revoke keys) submits in
    none-some found.0 (sym (ap submitted_by found.2)))
    (λ polls. no_poll (is_none_of r.outstanding) polls.1)
    (or_from_either (option_map acts.Submit numbers) (cond (is_none_of r.outstanding) None (Some acts.Poll)) (acts.Revoke keys) is)
  where
    is_poll : Act → Bool
    is_poll acts.Poll = true
    is_poll act = false

    no_poll : (b : Bool) → cond b None (Some acts.Poll) ≡ Some (acts.Revoke keys) → ⊥
    no_poll true same = none-some (acts.Revoke keys) same
    no_poll false same = false≢true (sym (ap is_poll (same_Some acts.Poll (acts.Revoke keys) same)))

-- the keys that an act revokes
abbrev revoked_by : Act → List Key
revoked_by (acts.Revoke keys) = keys
revoked_by act = []

revoke_from : (keys found : List Key) → revoke keys ≡ Some (acts.Revoke found) → keys ≡ found
revoke_from [] found is = absurd (none-some (acts.Revoke found) is)
revoke_from (key ∷ keys) found is = ap revoked_by (same_Some (acts.Revoke (key ∷ keys)) (acts.Revoke found) is)

pub next_revokes : (s : Store) (holders : Holders) (r : Running) (keys : List Key) →
    next_act s holders r ≡ Some (acts.Revoke keys) → RevokesKeys s holders r keys
next_revokes s holders r keys is =
    let p = r.place in
    ⊎_elim
    (λ kept.
    absurd
    (false≢true
    (sym (beginning_ordinary s holders p (first_refusal s p.at.process p.call) (acts.Revoke keys) kept.act_is))))
    (λ goes_on.
    ⊎_elim
    (λ revokes. record { goes_on = goes_on; keys_are = revoke_from (keys_to_revoke s p p.call) keys revokes })
    (λ own. absurd (submit_or_poll-revokes s r keys (own_special s holders r p.call (acts.Revoke keys) own.1 refl)))
    (or_from_either (revoke (keys_to_revoke s p p.call)) (own_act s holders r p.call) (acts.Revoke keys) goes_on.act_is))
    (next_act-cases s holders r (acts.Revoke keys) is)

-- no revocation submits
revoke-submits : (keys : List Key) (number : ℕ) → revoke keys ≡ Some (acts.Submit number) → ⊥
revoke-submits [] number is = none-some (acts.Submit number) is
revoke-submits (key ∷ keys) number is = none-some number (ap submitted_by (same_Some (acts.Revoke (key ∷ keys)) (acts.Submit number) is))

pub next_submits : (s : Store) (holders : Holders) (r : Running) (number : ℕ) →
    next_act s holders r ≡ Some (acts.Submit number) → SubmitsPiece s r number
next_submits s holders r number is =
    let p = r.place in
    ⊎_elim
    (λ kept.
    absurd
    (false≢true
    (sym (beginning_ordinary s holders p (first_refusal s p.at.process p.call) (acts.Submit number) kept.act_is))))
    (λ goes_on.
    ⊎_elim
    (λ revokes. absurd (revoke-submits (keys_to_revoke s p p.call) number revokes))
    (λ own. submit_or_poll-submits s r number (own_special s holders r p.call (acts.Submit number) own.1 refl))
    (or_from_either (revoke (keys_to_revoke s p p.call)) (own_act s holders r p.call) (acts.Submit number) goes_on.act_is))
    (next_act-cases s holders r (acts.Submit number) is)
