-- The keys that a call has to revoke are those of rights on its file, for a close of its descriptor.
use Rattle.std.proofs.Common.{◌≡◌, ℕ, ◌+◌, ◌<◌, Bool, true, false, ◌&&◌, cond, List, [], ◌∷◌, map, Option, None, Some, refl, sym, ap, ◌∙◌, subst, arith}
use Rattle.std.specs.Prelude.{nat_eq, nat_lt, All}
use Rattle.std.specs.Option.{option_map, option_map_or}
use Rattle.std.specs.List.{enumerate_from, flat_map, list_any}
use Rattle.std.proofs.lemmas.Bool.{and_parts, eq-eqb, eqb-true, ltb-true, or_left, or_right}
use Rattle.std.proofs.lemmas.List.Elements.{All-cons, All-filter, All-map, All-nil, All-weaker, filter_passes}
use Rattle.std.proofs.lemmas.Option.{get_or_from_slice_get}
use Rattle.bd_base.specs.declared.journal.At.{At}
use Rattle.bd_base.specs.declared.key.Key.{Key}
use Rattle.bd_base.specs.declared.script.Call.{Call}
use Rattle.bd_base.specs.declared.script.Call.TheVariants.{Enter, Truncate, Close}
use Rattle.bd_base.specs.declared.script.How.TheVariants as hows
use Rattle.bd_entry.specs.declared.entry.Entry.{Entry}
use Rattle.bd_entry.specs.declared.entry.Entry.TheVariants as entries
use Rattle.bd_entry.specs.Actions.{keys_by, keys_of_slot, keys_on, keys_to_revoke, keys_where}
use Rattle.bd_entry.specs.Calls.{Place, is_made_by, pieces_of_call}
use Rattle.bd_entry.specs.Refusals.{file_of}
use Rattle.bd_entry.specs.RulesOfCalls.{MayClear}
use Rattle.bd_entry.specs.RulesOfRights.{LowersWhereTruncates}
use Rattle.bd_entry.specs.Store.{Descriptor, Store, descriptor_at, has_part, in_slot, size_in, slots_of}
use Rattle.bd_turns.proofs.FoundElements.{All-made}

-- ---- keys of rights

-- the key is that of a right of an open descriptor that passes the test
pub record IsKeyWhere (test : Descriptor → Bool) (s : Store) (key : Key) : Type 0 where
  pub d : Descriptor
  pub is_open : descriptor_at s key.process key.fd ≡ Some d
  pub passes : test d ≡ true
  pub attached : has_part key.part d.attached ≡ true

-- each part of a list is among it
parts_among : (parts : List ℕ) → All (λ part. has_part part parts ≡ true) parts
parts_among [] = All-nil (λ part. has_part part [] ≡ true)
parts_among (part ∷ parts) =
    All-cons (λ other. has_part other (part ∷ parts) ≡ true) part parts
    (or_left (nat_eq part part) (list_any (nat_eq part) parts) (eq-eqb part part refl))
    (All-weaker (λ other. has_part other parts ≡ true) (λ other. has_part other (part ∷ parts) ≡ true)
    (λ other later. or_right (nat_eq other part) (list_any (nat_eq other) parts) later) parts (parts_among parts))

-- so is each key of a slot
keys_of_slot-are : (test : Descriptor → Bool) (s : Store) (process fd : ℕ) (slot : Option Descriptor) →
    descriptor_at s process fd ≡ slot → All (IsKeyWhere test s) (keys_of_slot test process fd slot)
keys_of_slot-are test s process fd None is = All-nil (IsKeyWhere test s)
keys_of_slot-are test s process fd (Some d) is = by (test d) refl
  where
    by : (b : Bool) → test d ≡ b → All (IsKeyWhere test s) (cond b (map (λ part. record { process = process; fd = fd; part = part }) d.attached) [])
    by true passes =
        let key : ℕ → Key = λ part. record { process = process; fd = fd; part = part } in
        All-map (IsKeyWhere test s) key d.attached
        (All-weaker (λ part. has_part part d.attached ≡ true) (λ part. IsKeyWhere test s (key part))
        (λ part among. record { d = d; is_open = is; passes = passes; attached = among }) d.attached (parts_among d.attached))
    by false fails = All-nil (IsKeyWhere test s)

-- and each key of the rights of all descriptors
pub keys_where-are : (test : Descriptor → Bool) (s : Store) → All (IsKeyWhere test s) (keys_where test s)
keys_where-are test s =
    All-made (IsKeyWhere test s) _ 0 s.opens
    (λ process row at_row.
    let row_is : slots_of s process ≡ row = get_or_from_slice_get s.opens process row [] at_row in
    let start : process ≡ 0 + process = omega arith in
    subst (λ (n : ℕ). All (IsKeyWhere test s) (flat_map (λ slot. keys_of_slot test n slot.0 slot.1) (enumerate_from 0 row)))
    start
    (All-made (IsKeyWhere test s) (λ slot. keys_of_slot test process slot.0 slot.1) 0 row
    (λ fd slot at_slot.
    let slot_is : descriptor_at s process fd ≡ slot =
    ap (λ (slots : List (Option Descriptor)). in_slot slots fd) row_is ∙ get_or_from_slice_get row fd slot None at_slot in
    let first : fd ≡ 0 + fd = omega arith in
    subst (λ (n : ℕ). All (IsKeyWhere test s) (keys_of_slot test process n slot)) first
    (keys_of_slot-are test s process fd slot slot_is))))

-- ---- keys of a call

-- the key is one that the call may clear: of a right on its file, which it lowers if it is a truncation
pub record MayRevoke (s : Store) (p : Place) (call : Call) (key : Key) : Type 0 where
  pub d : Descriptor
  pub is_open : descriptor_at s key.process key.fd ≡ Some d
  pub of_file : file_of s p ≡ Some d.file
  pub attached : has_part key.part d.attached ≡ true
  pub clears : is_made_by call (entries.Cleared p.at key.process key.fd key.part) ≡ true
  pub may_clear : MayClear call p.at.process key.process key.fd
  pub lowers : LowersWhereTruncates s call d.file
  pub no_pieces : pieces_of_call call ≡ []

-- the keys on a file
keys_on-are : (s : Store) (file : ℕ) → All (IsKeyWhere (λ d. nat_eq d.file file) s) (keys_on s file)
keys_on-are s file = keys_where-are (λ d. nat_eq d.file file) s

-- the keys of an open's file
open_keys : (s : Store) (p : Place) (name : List ℕ) (mode : _) (o : Option ℕ) → file_of s p ≡ o →
    All (MayRevoke s p (Enter name mode hows.Plain)) (option_map_or (keys_on s) o [])
open_keys s p name mode None is = All-nil (MayRevoke s p (Enter name mode hows.Plain))
open_keys s p name mode (Some file) is =
    All-weaker (IsKeyWhere (λ d. nat_eq d.file file) s) (MayRevoke s p (Enter name mode hows.Plain))
    (λ key where_is.
    record {
      d = where_is.d;
      is_open = where_is.is_open;
      of_file = is ∙ ap Some (sym (eqb-true where_is.d.file file where_is.passes));
      attached = where_is.attached;
      clears = refl;
      may_clear = tt;
      lowers = tt;
      no_pieces = refl;
    })
    (keys_on s file) (keys_on-are s file)

-- the keys of a truncation's file, where it lowers the size
truncation_keys : (s : Store) (p : Place) (fd size : ℕ) (o : Option ℕ) → file_of s p ≡ o →
    All (MayRevoke s p (Truncate fd size)) (option_map_or (λ file. cond (nat_lt size (size_in s file)) (keys_on s file) []) o [])
truncation_keys s p fd size None is = All-nil (MayRevoke s p (Truncate fd size))
truncation_keys s p fd size (Some file) is = by (nat_lt size (size_in s file)) refl
  where
    by : (b : Bool) → nat_lt size (size_in s file) ≡ b → All (MayRevoke s p (Truncate fd size)) (cond b (keys_on s file) [])
    by false same = All-nil (MayRevoke s p (Truncate fd size))
    by true below =
        All-weaker (IsKeyWhere (λ d. nat_eq d.file file) s) (MayRevoke s p (Truncate fd size))
        (λ key where_is.
        let file_is : where_is.d.file ≡ file = eqb-true where_is.d.file file where_is.passes in
        record {
          d = where_is.d;
          is_open = where_is.is_open;
          of_file = is ∙ ap Some (sym file_is);
          attached = where_is.attached;
          clears = refl;
          may_clear = tt;
          lowers = subst (λ (f : ℕ). size < size_in s f) (sym file_is) (ltb-true size (size_in s file) below);
          no_pieces = refl;
        })
        (keys_on s file) (keys_on-are s file)

-- the keys of a close's descriptor
close_keys : (s : Store) (at : At) (before : List Entry) (fd : ℕ) →
    All (MayRevoke s (record { call = Close fd; at = at; before = before }) (Close fd)) (keys_by s at.process fd)
close_keys s at before fd =
    let all : Descriptor → Bool = λ d. true in
    let test : Key → Bool = λ key. nat_eq key.process at.process && nat_eq key.fd fd in
    let of_right : All (IsKeyWhere all s) (keys_by s at.process fd) =
    All-filter test (IsKeyWhere all s) (keys_where all s) (keys_where-are all s) in
    let of_fd : All (λ key. test key ≡ true) (keys_by s at.process fd) = filter_passes test (keys_where all s) in
    let both : All (λ key. IsKeyWhere all s key × (test key ≡ true)) (keys_by s at.process fd) =
    λ k d lt. (of_right k d lt, of_fd k d lt) in
    let p : Place = record { call = Close fd; at = at; before = before } in
    All-weaker (λ key. IsKeyWhere all s key × (test key ≡ true)) (MayRevoke s p (Close fd))
    (λ key facts.
    let same = and_parts (nat_eq key.process at.process) (nat_eq key.fd fd) facts.1 in
    let process_is : key.process ≡ at.process = eqb-true key.process at.process same.0 in
    let fd_is : key.fd ≡ fd = eqb-true key.fd fd same.1 in
    let here : descriptor_at s at.process fd ≡ Some facts.0.d =
    ap (λ (n : ℕ). descriptor_at s n fd) (sym process_is) ∙ ap (descriptor_at s key.process) (sym fd_is) ∙ facts.0.is_open in
    record {
      d = facts.0.d;
      is_open = facts.0.is_open;
      of_file = ap (option_map (λ (d : Descriptor). d.file)) here;
      attached = facts.0.attached;
      clears = refl;
      may_clear = (process_is, fd_is);
      lowers = tt;
      no_pieces = refl;
    })
    (keys_by s at.process fd) both

-- each key that a call has to revoke is one that it may
pub revocable : (s : Store) (call : Call) (at : At) (before : List Entry) →
    let p : Place = record { call = call; at = at; before = before } in
    All (MayRevoke s p call) (keys_to_revoke s p call)
revocable s (Enter name mode hows.Plain) at before =
    let p : Place = record { call = Enter name mode hows.Plain; at = at; before = before } in
    open_keys s p name mode (file_of s p) refl
revocable s (Truncate fd size) at before =
    let p : Place = record { call = Truncate fd size; at = at; before = before } in
    truncation_keys s p fd size (file_of s p) refl
revocable s (Close fd) at before = close_keys s at before fd
revocable s (Enter name mode hows.Direct) at before =
    All-nil (MayRevoke s (record { call = Enter name mode hows.Direct; at = at; before = before }) (Enter name mode hows.Direct))
revocable s call at before = All-nil (MayRevoke s (record { call = call; at = at; before = before }) call)
