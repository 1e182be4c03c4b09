-- What an engine reads in plain tables.
use Rattle.std.proofs.Common.{◌≡◌, ℕ, ◌%◌, ◌<◌, Bool, true, false, ◌&&◌, not, cond, Option, None, Some, Ok, Err, refl, ap, ◌∙◌, subst, arith}
use Rattle.std.specs.FinMap as fin
use Rattle.std.specs.Option.{option_map}
use Rattle.std.specs.Result.{result_err}
use Rattle.bd_base.specs.declared.journal.Found.TheVariants.{NoRight}
use Rattle.bd_base.specs.declared.key.Key.{Key}
use Rattle.bd_base.specs.declared.key_list.TheConstants.{MOST_KEYS}
use Rattle.bd_base.specs.declared.limits.TheConstants.{PART_BLOCKS}
use Rattle.bd_base.specs.Keys.{key_number, key_of}
use Rattle.bd_directory.specs.Entries.{EntryList, entered, entry_at}
use Rattle.bd_file_table.specs.Fragments.{Book, Fragment, cell_at, number_of}
use Rattle.bd_tables.specs.declared.request.Request.{Request}
use Rattle.bd_tables.specs.declared.state.Right.{Right}
use Rattle.bd_tables.specs.declared.state.RightState.{RightState}
use Rattle.bd_tables.specs.declared.state.RightState.TheVariants.{On, Cleared, Drained}
use Rattle.bd_tables.specs.declared.state.Walk.{Walk}
use Rattle.bd_tables.specs.declared.state.Walk.TheVariants.{Entered}
use Rattle.bd_tables.specs.Kept.{AreInUse, IsKept, grant_in, grant_of}
use Rattle.bd_tables.specs.Plain.{PlainState, cells_of, its_cells, place_at, tables_of}
use Rattle.bd_tables.specs.Sound.{Allows, IsKey, OnRight, granted_of}
use Rattle.bd_tables.specs.State.{Rights, entry_in, found_entering, found_under, lookup, lookup_under, pair_under}
use Rattle.bd_tables.proofs.Kept.{mirror-at, shared_by}
use Rattle.bd_tables.proofs.KeptPlain.{own-request, walk-there}
use Rattle.bd_tables.proofs.Places.{get-cells_of}

-- ---- an enter

-- a key whose number is that of a key that there may be
pub numbered_key : (key : Key) → key_number key < MOST_KEYS → key_of (key_number key) ≡ key → IsKey key
numbered_key key below is = subst IsKey is (record { process = omega (arith, below); fd = omega arith; part = omega arith })

cond-err : (b : Bool) (n : ℕ) → result_err (cond b (Err NoRight) (Ok n)) ≡ cond b (Some NoRight) None
cond-err true n = refl
cond-err false n = refl

found_in : (state : RightState) (fragment : Option ℕ) (allowed write : Bool) (n : ℕ) → fragment ≡ Some n →
    result_err (entered write (grant_in state fragment allowed)) ≡ found_under state allowed write
found_in On fragment allowed write n is =
    ap (λ f. result_err (entered write (option_map (λ (n : ℕ). record { fragment = n; write = allowed }) f))) is ∙ cond-err (write && not allowed) n
found_in Cleared fragment allowed write n is = refl
found_in (Drained swept) fragment allowed write n is = refl

found_of_right : (rights : Rights) (book : Book) → AreInUse rights book → (key : Key) → IsKey key → (write : Bool) → (right : Option Right) →
    fin.get rights key ≡ right → result_err (entered write (grant_of book key right)) ≡ found_entering right write
found_of_right rights book in_use key is_key write None has = refl
found_of_right rights book in_use key is_key write (Some right) has =
    let shared = shared_by rights book in_use key right has is_key in
    found_in right.state _ right.write write shared.fragment.number (ap (option_map number_of) shared.is)

pub found-enter : (plain : PlainState) (directory : EntryList) → IsKept plain directory → (key : Key) → IsKey key → (write : Bool) →
    result_err (entered write (entry_at directory key).grant) ≡ found_entering (fin.get plain.rights key) write
found-enter plain directory kept key is_key write =
    ap (λ g. result_err (entered write g)) (mirror-at plain.rights plain.book plain.places directory kept.mirrored key is_key).grant
    ∙ found_of_right plain.rights plain.book kept.in_use key is_key write _ refl

-- ---- a read of an entry

-- the right and the fragment of an engine that is granted
pub record HasEntry (plain : PlainState) (key : Key) : Type 0 where
  pub right : Right
  pub has : fin.get plain.rights key ≡ Some right
  pub fragment : Fragment
  pub is : fin.get plain.book (pair_under key right) ≡ Some fragment

entry_under : (plain : PlainState) → AreInUse plain.rights plain.book → (key : Key) → IsKey key → (request : Request) (right : Option Right) →
    fin.get plain.rights key ≡ right → OnRight (Allows request) right → HasEntry plain key
entry_under plain in_use key is_key request None has allowed = absurd allowed
entry_under plain in_use key is_key request (Some right) has allowed =
    let shared = shared_by plain.rights plain.book in_use key right has is_key in
    record { right = right; has = has; fragment = shared.fragment; is = shared.is }

pub entry_of : (plain : PlainState) (directory : EntryList) → IsKept plain directory → (process : ℕ) (walk : Walk) →
    place_at plain.places process ≡ Some walk → (request : Request) → walk ≡ Entered request → HasEntry plain request.key
entry_of plain directory kept process walk at request is =
    let there = walk-there plain directory kept process walk at ∙ is in
    let own = own-request plain directory kept process (Entered request) (at ∙ ap Some is) request refl in
    entry_under plain kept.in_use request.key own.key request _ refl (kept.sound.granted process request (ap granted_of there))

pub lookup-entry : (plain : PlainState) (key : Key) (index : ℕ) → (entry : HasEntry plain key) →
    lookup (tables_of plain) key index ≡ cell_at entry.fragment.cells (index % PART_BLOCKS)
lookup-entry plain key index entry =
    ap (lookup_under (cells_of plain.book) key index) entry.has
    ∙ ap (λ v. entry_in v index) (get-cells_of plain.book (pair_under key entry.right) ∙ ap (option_map its_cells) entry.is)
