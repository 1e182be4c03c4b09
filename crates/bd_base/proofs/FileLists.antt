-- Lists of files after a change of one file.
use Rattle.std.proofs.Common.{◌≡◌, ℕ, ◌+◌, ◌<◌, ◌≤◌, Bool, true, false, cond, nat_eq, is_some, List, []}
use Rattle.std.proofs.Common.{length, position, count_by, slice_set, Option, None, Some, IsSome, All}
use Rattle.std.proofs.Common.{arith, refl, sym, ap, ◌∙◌, inl, inr, subst, get_or-set_same, get_or-set_other}
use Rattle.std.proofs.Common.{unwrap_or, get_or}
use Rattle.std.specs.Cmp.Lexicographic.{bytes_decides, nat_list_eq_equiv}
use Rattle.std.specs.List.{position_or_len}
use Rattle.std.specs.Str.{bytes_eq}
use Rattle.std.proofs.lemmas.Bool.{cases_eq, cases_lt, cases_Bool, cond-true, lt-ltb, le-ltb, false≢true}
use Rattle.std.proofs.lemmas.List.{map-set, length-set, length-map, get_or-map, get_or_past, get_or_read, get_or_default}
use Rattle.std.proofs.lemmas.List.Folds.{position_or_len-set}
use Rattle.std.proofs.lemmas.List.Sums.{sum_by-set, fails_before_first, position_or_len_is}
use Rattle.std.proofs.lemmas.Option.{none-some}
use Rattle.bd_base.specs.declared.limits.TheConstants.{EXTENTS}
use Rattle.bd_base.specs.declared.volume.Inode.{Inode}
use Rattle.bd_base.specs.Allocation.{times_listed}
use Rattle.bd_base.specs.Extents.{extents_of}
use Rattle.bd_base.specs.Inodes.{AreValidFiles, block_lists, blocks_of_slot, existing_file, has_name, id_of, inode_at, no_file}

-- ---- one file

pub inode_at-within : (files : List (Option Inode)) (id : ℕ) → IsSome (inode_at files id) → id < length files
inode_at-within files id some =
    elim (cases_lt id (length files)) [
      | inl inside ↦ inside
      | inr past ↦ absurd (false≢true (sym (ap is_some (get_or_past files id None past)) ∙ some))
    ]

pub inode_at-existing_file : (files : List (Option Inode)) (id : ℕ) → IsSome (inode_at files id) → inode_at files id ≡ Some (existing_file files id)
inode_at-existing_file files id some = of (inode_at files id) some
  where
    of : (o : Option Inode) → IsSome o → o ≡ Some (unwrap_or o no_file)
    of None some = absurd (false≢true some)
    of (Some f) some = refl

pub inode_at-set_same : (files : List (Option Inode)) (id : ℕ) (o : Option Inode) → id < length files → inode_at (slice_set files id o) id ≡ o
inode_at-set_same files id o inside = get_or-set_same files id o None inside

pub inode_at-set_other : (files : List (Option Inode)) (id j : ℕ) (o : Option Inode) → (j ≡ id → ⊥)
    → inode_at (slice_set files id o) j ≡ inode_at files j
inode_at-set_other files id j o other = get_or-set_other files id j o None other

pub none-from : {X : Type 0} (o : Option X) → is_some o ≡ false → o ≡ None
none-from None none = refl
none-from (Some x) none = absurd (false≢true (sym none))

-- what was read at an id is the file there
pub slot-is : (files : List (Option Inode)) (id : ℕ) (slot : Option Inode) → IsSome (inode_at files id)
    → slot ≡ get_or files id slot → slot ≡ inode_at files id
slot-is files id slot some read = get_or_read files id slot (inode_at-within files id some) read None

-- ---- blocks

-- each block is listed as often as before, but for the changed file
pub times_listed-set : (files : List (Option Inode)) (id : ℕ) (o : Option Inode) (b : ℕ) → id < length files
    → times_listed (block_lists (slice_set files id o)) b + count_by (nat_eq b)
    (blocks_of_slot (inode_at files id))
    ≡ times_listed (block_lists files) b + count_by (nat_eq b) (blocks_of_slot o)
times_listed-set files id o b inside =
    let within : id < length (block_lists files) = rw length-map inside in
    let lists : block_lists (slice_set files id o) ≡ slice_set (block_lists files) id (blocks_of_slot o) = map-set blocks_of_slot files id o in
    let at : get_or (block_lists files) id [] ≡ blocks_of_slot (inode_at files id) = get_or-map blocks_of_slot files id None [] inside in
    rw (lists, ← at) (sum_by-set (λ blocks. count_by (nat_eq b) blocks) (block_lists files) id (blocks_of_slot o) [] within)

-- ---- names

position-set : (p : Option Inode → Bool) (files : List (Option Inode)) (id : ℕ) (o : Option Inode)
    → p o ≡ p (inode_at files id) → position p (slice_set files id o) ≡ position p files
position-set p files id o same = rw (position_or_len-set p files id o None same, length-set) refl

position-at : (p : Option Inode → Bool) (files : List (Option Inode)) (id : ℕ) → id < length files
    → ((k : ℕ) → k < id → p (inode_at files k) ≡ false) → p (inode_at files id) ≡ true
    → position p files ≡ Some id
position-at p files id inside before here =
    let first : position_or_len p files ≡ id = position_or_len_is p files id None (omega arith) before (λ _. here) in
    rw (first, lt-ltb id (length files) inside) refl

pub position-nowhere : (p : Option Inode → Bool) (files : List (Option Inode))
    → ((k : ℕ) → k < length files → p (inode_at files k) ≡ false) → position p files ≡ None
position-nowhere p files fails =
    let end : position_or_len p files ≡ length files = position_or_len_is p files (length files) None (omega arith) fails (λ inside. absurd (omega arith)) in
    rw (end, le-ltb (length files) (length files) (omega arith)) refl

pub position-fails : (p : Option Inode → Bool) (files : List (Option Inode)) → position p files ≡ None → (k : ℕ)
    → k < length files → p (inode_at files k) ≡ false
position-fails p files none k inside =
    elim (cases_lt (position_or_len p files) (length files)) [
      | inl found ↦ absurd (none-some (position_or_len p files) (sym none ∙ cond-true _ _ _ (lt-ltb _ _ found)))
      | inr past ↦ fails_before_first p files k None (omega arith)
    ]

-- a file that keeps its name
pub id_of-set_named : (files : List (Option Inode)) (id : ℕ) (file changed : Inode)
    → inode_at files id ≡ Some file → changed.name ≡ file.name → (name : List ℕ)
    → id_of name (slice_set files id (Some changed)) ≡ id_of name files
id_of-set_named files id file changed there same name =
    position-set (has_name name) files id (Some changed) (ap (bytes_eq name) same ∙ sym (ap (has_name name) there))

-- a file that is made
pub id_of-set_made : (files : List (Option Inode)) (id : ℕ) (made : Inode) → id < length files
    → inode_at files id ≡ None → id_of made.name files ≡ None → (name : List ℕ)
    → id_of name (slice_set files id (Some made)) ≡ cond (bytes_eq made.name name) (Some id) (id_of name files)
id_of-set_made files id made inside free unused name =
    elim (cases_Bool (bytes_eq made.name name)) [
      | inl same ↦
          let is : made.name ≡ name = (bytes_decides made.name name).0 same in
          rw same (subst (λ n. id_of n (slice_set files id (Some made)) ≡ Some id) is at_id)
      | inr differ ↦
          let other : has_name name (Some made) ≡ has_name name (inode_at files id) =
          nat_list_eq_equiv.symm name made.name ∙ differ ∙ sym (ap (has_name name) free) in
          rw differ (position-set (has_name name) files id (Some made) other)
    ]
  where
    at_id : id_of made.name (slice_set files id (Some made)) ≡ Some id
    at_id =
        position-at (has_name made.name) (slice_set files id (Some made)) id (rw length-set inside)
        (λ k below. ap (has_name made.name) (inode_at-set_other files id k (Some made) (λ same. omega arith))
        ∙ position-fails (has_name made.name) files unused k (omega arith))
        (ap (has_name made.name) (inode_at-set_same files id (Some made) inside) ∙ (bytes_decides made.name made.name).1 refl)

-- a file of this name
pub record Named (name : List ℕ) (o : Option Inode) : Type 0 where
  pub file : Inode
  pub is : o ≡ Some file
  pub named : name ≡ file.name

pub has_name-Named : (name : List ℕ) (o : Option Inode) → has_name name o ≡ true → Named name o
has_name-Named name None has = absurd (false≢true has)
has_name-Named name (Some f) has = record { file = f; is = refl; named = (bytes_decides name f.name).0 has }

-- a file that is taken away
pub id_of-set_removed : (total : ℕ) (files : List (Option Inode)) (id : ℕ) (file : Inode)
    → AreValidFiles total files → inode_at files id ≡ Some file → (name : List ℕ)
    → id_of name (slice_set files id None) ≡ cond (bytes_eq file.name name) None (id_of name files)
id_of-set_removed total files id file valid there name =
    elim (cases_Bool (bytes_eq file.name name)) [
      | inl same ↦ rw same (position-nowhere (has_name name) (slice_set files id None) (λ k _. nowhere ((bytes_decides file.name name).0 same) k))
      | inr differ ↦
          let other : has_name name None ≡ has_name name (inode_at files id) =
          sym (ap (has_name name) there ∙ nat_list_eq_equiv.symm name file.name ∙ differ) in
          rw differ (position-set (has_name name) files id None other)
    ]
  where
    nowhere : file.name ≡ name → (k : ℕ) → has_name name (inode_at (slice_set files id None) k) ≡ false
    nowhere is k =
        elim (cases_eq k id) [
          | inl same ↦ rw same (ap (has_name name) (inode_at-set_same files id None (inode_at-within files id (ap is_some there))))
          | inr other ↦
              ap (has_name name) (inode_at-set_other files id k None other)
              ∙ elim (cases_Bool (has_name name (inode_at files k))) [
                | inl has ↦
                    let found : Named name (inode_at files k) = has_name-Named name (inode_at files k) has in
                    absurd (other (valid.names_differ k id found.file file found.is there (sym found.named ∙ sym is)))
                | inr fails ↦ fails
              ]
        ]

-- ---- extents

pub few_extents : (total : ℕ) (files : List (Option Inode)) → AreValidFiles total files
    → All (λ file. length (extents_of (blocks_of_slot file)) ≤ EXTENTS) files
few_extents total files valid = λ k d inside.
    rw (get_or_default files k d None inside) (of (inode_at files k) (λ file there. (valid.each k file there).few_extents))
  where
    of : (o : Option Inode) → ((file : Inode) → o ≡ Some file → length (extents_of file.blocks) ≤ EXTENTS)
        → length (extents_of (blocks_of_slot o)) ≤ EXTENTS
    of None few = omega arith
    of (Some file) few = few file refl
