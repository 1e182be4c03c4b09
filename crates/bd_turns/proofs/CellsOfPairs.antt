-- The cells of the pairs in use: those of the file's blocks.
use Rattle.std.proofs.Common.{◌≡◌, ◌≢◌, ◌⊎◌, inl, inr, ℕ, ◌*◌, ◌/◌, ◌%◌, ◌<◌, cond, Bool, true, false, nat_eq, List, [], ◌∷◌, length, map, Option, None, Some, is_some, arith, refl, sym, ap, ◌∙◌, subst, ⊎_elim}
use Rattle.std.specs.Prelude.{count_by}
use Rattle.std.specs.List.{range_with_len}
use Rattle.std.specs.Cmp.{tied_itself}
use Rattle.std.specs.FinMap as fin
use Rattle.std.specs.Ordering.{is_eq}
use Rattle.std.proofs.lemmas.Bool.{both_ways, cases_Bool, cond-false, eqb-false, eqb-true, false≢true}
use Rattle.std.proofs.lemmas.List.Sums.{sum_by-cons}
use Rattle.std.proofs.lemmas.Option.{none-some, same_Some}
use Rattle.bd_base.specs.declared.key.Cell.{Cell}
use Rattle.bd_base.specs.declared.key.Key.{Key}
use Rattle.bd_base.specs.declared.limits.TheConstants.{DESCRIPTORS, PART_BLOCKS, PROCESSES}
use Rattle.bd_base.specs.Keys.{Pair, key_cmp_total, pair_cmp_total, same_key, same_key-is, same_pair, same_pair-is}
use Rattle.bd_entry.specs.Store.{Store, file_in}
use Rattle.bd_file_table.specs.Fragments.{Cells, cell_at, padded}
use Rattle.bd_tables.specs.declared.state.Right.{Right}
use Rattle.bd_tables.specs.Effects.{attach_right, change, drop_unused, new_right}
use Rattle.bd_tables.specs.Sound.{IsKey}
use Rattle.bd_tables.specs.State.{CellMap, Rights, entry_in, is_about, key_of_part, lookup_under, pair_for, pair_under, users}
use Rattle.bd_tables.proofs.Maps.{get-change, other_key, other_key-remove, same_key-insert, same_key-remove}
use Rattle.bd_tables.proofs.Users.{user-counts}
use Rattle.bd_turns.specs.Sound.{AreLookupsOf, AreUsed, AreWhole, cell_of_block}
use Rattle.bd_turns.specs.State.{State}
use Rattle.bd_turns.proofs.CellsOfFiles.{cells_by_slot}

-- ---- pairs in use

-- the pair has as many cells as a part has blocks, and they are those of the file's blocks
pub record HasCells (cells : CellMap) (s : Store) (pair : Pair) : Type 0 where
  pub its : Cells
  pub there : fin.get cells pair ≡ Some its
  pub size : length its ≡ PART_BLOCKS
  pub looks : (index : ℕ) → index / PART_BLOCKS ≡ pair.part → cell_at its (index % PART_BLOCKS) ≡ cell_of_block s pair.file index

-- some key is about the pair
abbrev pub IsUsed : Rights → Pair → Type 0
IsUsed rights pair = (key : Key) × (right : Right) × (fin.get rights key ≡ Some right) × (pair_under key right ≡ pair)

-- the pairs in use are those of the attached keys, and have their cells
pub record AreCells (rights : Rights) (cells : CellMap) (s : Store) : Type 0 where
  pub all : (key : Key) (right : Right) → fin.get rights key ≡ Some right → HasCells cells s (pair_under key right)
  pub used : (pair : Pair) → fin.contains_key cells pair ≡ true → IsUsed rights pair

pub are_cells : (m : State) → AreLookupsOf m → AreWhole m → AreUsed m → AreCells m.tables.rights m.tables.cells m.store
are_cells m lookups whole used = record {
  all = λ key right is.
      let cells = whole key right is in
      record {
        its = cells.0;
        there = cells.1;
        size = cells.2;
        looks = λ index of_part.
            sym (ap (λ (r : Option Right). lookup_under m.tables.cells key index r) is ∙ ap (λ (c : Option Cells). entry_in c index) cells.1)
            ∙ lookups key right index is of_part;
      };
  used = used;
}

pub lookups_of_cells : (m : State) → AreCells m.tables.rights m.tables.cells m.store → AreLookupsOf m
lookups_of_cells m are key right index is of_part =
    let has = are.all key right is in
    ap (λ (r : Option Right). lookup_under m.tables.cells key index r) is
    ∙ ap (λ (c : Option Cells). entry_in c index) has.there ∙ has.looks index of_part

pub whole_of_cells : (m : State) → AreCells m.tables.rights m.tables.cells m.store → AreWhole m
whole_of_cells m are key right is = let has = are.all key right is in (has.its, has.there, has.size)

-- a pair in use has its cells
pub cells_of_used : (rights : Rights) (cells : CellMap) (s : Store) → AreCells rights cells s → (pair : Pair) → fin.contains_key cells pair ≡ true →
    HasCells cells s pair
cells_of_used rights cells s are pair in_use =
    let user = are.used pair in_use in
    subst (HasCells cells s) user.3 (are.all user.0 user.1 user.2)

-- the pair of an attached key is in use
in_use : (cells : CellMap) (s : Store) (pair : Pair) → HasCells cells s pair → fin.contains_key cells pair ≡ true
in_use cells s pair has = ap is_some has.there

-- ---- a change of states, or of the store

pub cells_of_states : (rights : Rights) (cells : CellMap) (s : Store) (key : Key) (f : Right → Right) → ((right : Right) → (f right).file ≡ right.file) →
    AreCells rights cells s → AreCells (change rights key f) cells s
cells_of_states rights cells s key f file are = record {
  all = λ q right.
      get-change key_cmp_total rights key f q (λ r. r ≡ Some right → HasCells cells s (pair_under q right))
      (λ other is. are.all q right is)
      (λ old at same is.
      let was : fin.get rights q ≡ Some old = ap (fin.get rights) (same_key-is q key same) ∙ at in
      let same_file : old.file ≡ right.file = sym (file old) ∙ ap (λ (r : Right). r.file) (same_Some (f old) right is) in
      subst (λ (n : ℕ). HasCells cells s (pair_for n q)) same_file (are.all q old was))
      (λ none is. are.all q right is);
  used = λ pair in_use.
      let user = are.used pair in_use in
      let q = user.0 in
      let found = get-change key_cmp_total rights key f q
      (λ r. (right : Right) × (r ≡ Some right) × (pair_under q right ≡ pair))
      (λ other. (user.1, user.2, user.3))
      (λ old at same.
      let one : old ≡ user.1 = same_Some old user.1 (sym (ap (fin.get rights) (same_key-is q key same) ∙ at) ∙ user.2) in
      (f old, refl, ap (λ (n : ℕ). pair_for n q) (file old ∙ ap (λ (r : Right). r.file) one) ∙ user.3))
      (λ none. (user.1, user.2, user.3)) in
      (q, found.0, found.1, found.2);
}

-- the files with rights are the same in both stores
abbrev pub KeepsFilesOf : Rights → Store → Store → Type 0
KeepsFilesOf rights s t = (key : Key) (right : Right) → fin.get rights key ≡ Some right → file_in t right.file ≡ file_in s right.file

pub has_cells_in : (cells : CellMap) (s t : Store) (pair : Pair) → file_in t pair.file ≡ file_in s pair.file → HasCells cells s pair → HasCells cells t pair
has_cells_in cells s t pair same has = record {
  its = has.its;
  there = has.there;
  size = has.size;
  looks = λ index of_part. has.looks index of_part ∙ sym (cells_by_slot t s pair.file pair.file index same);
}

pub cells_of_store : (rights : Rights) (cells : CellMap) (s t : Store) → KeepsFilesOf rights s t → AreCells rights cells s → AreCells rights cells t
cells_of_store rights cells s t keeps are = record {
  all = λ key right is. has_cells_in cells s t (pair_under key right) (keeps key right is) (are.all key right is);
  used = are.used;
}

-- ---- an attach

pub cells_of_attach : (rights : Rights) (cells : CellMap) (s : Store) (key : Key) (file : ℕ) (write : Bool) (new : List Cell) →
    fin.get rights key ≡ None → length (padded new) ≡ PART_BLOCKS →
    ((index : ℕ) → index / PART_BLOCKS ≡ key.part → cell_at (padded new) (index % PART_BLOCKS) ≡ cell_of_block s file index) →
    AreCells rights cells s →
    let pair = pair_for file key in
    AreCells (attach_right rights key file write) (cond (fin.contains_key cells pair) cells (fin.insert cells pair (padded new))) s
cells_of_attach rights cells s key file write new none size looks are = by (fin.contains_key cells pair) refl
  where
    pair : Pair
    pair = pair_for file key

    right_new : Right
    right_new = new_right file write

    after : Rights
    after = attach_right rights key file write

    built : CellMap
    built = fin.insert cells pair (padded new)

    -- a key that was attached is another
    apart : (q : Key) (right : Right) → fin.get rights q ≡ Some right → same_key q key ≡ false
    apart q right is = elim (cases_Bool (same_key q key)) [
      | inl same ↦ absurd (none-some right (sym (ap (fin.get rights) (same_key-is q key same) ∙ none) ∙ is))
      | inr other ↦ other
    ]

    still_used : (p : Pair) → IsUsed rights p → IsUsed after p
    still_used p user =
        (user.0, user.1, other_key key_cmp_total rights key right_new user.0 (apart user.0 user.1 user.2) ∙ user.2, user.3)

    of_new : (q : Key) (right : Right) → same_key q key ≡ true → fin.get after q ≡ Some right → pair ≡ pair_under q right
    of_new q right same is =
        let at : q ≡ key = same_key-is q key same in
        let right_is : right_new ≡ right =
        same_Some right_new right (sym (same_key-insert key_cmp_total rights key right_new) ∙ ap (fin.get after) (sym at) ∙ is) in
        ap (λ (k : Key). pair_for file k) (sym at) ∙ ap (λ (r : Right). pair_for r.file q) right_is

    of_old : (q : Key) (right : Right) → same_key q key ≡ false → fin.get after q ≡ Some right → HasCells cells s (pair_under q right)
    of_old q right other is = are.all q right (sym (other_key key_cmp_total rights key right_new q other) ∙ is)

    all_after : (map : CellMap) → HasCells map s pair → ((p : Pair) → HasCells cells s p → HasCells map s p) → (q : Key) (right : Right) →
        fin.get after q ≡ Some right → HasCells map s (pair_under q right)
    all_after map here kept q right is = elim (cases_Bool (same_key q key)) [
      | inl same ↦ subst (HasCells map s) (of_new q right same is) here
      | inr other ↦ kept (pair_under q right) (of_old q right other is)
    ]

    by : (b : Bool) → fin.contains_key cells pair ≡ b → AreCells after (cond b cells built) s
    by true shared = record {
      all = all_after cells (cells_of_used rights cells s are pair shared) (λ p has. has);
      used = λ p there. still_used p (are.used p there);
    }
    by false unshared = record {
      all = all_after built
          (record { its = padded new; there = same_key-insert pair_cmp_total cells pair (padded new); size = size; looks = looks })
          (λ p has.
          let other : same_pair p pair ≡ false = elim (cases_Bool (same_pair p pair)) [
            | inl same ↦
                absurd (both_ways (fin.contains_key cells pair) unshared
                (ap (fin.contains_key cells) (sym (same_pair-is p pair same)) ∙ in_use cells s p has))
            | inr differs ↦ differs
          ] in
          record {
            its = has.its;
            there = other_key pair_cmp_total cells pair (padded new) p other ∙ has.there;
            size = has.size;
            looks = has.looks;
          });
      used = λ p there. elim (cases_Bool (same_pair p pair)) [
        | inl same ↦ (key, right_new, same_key-insert key_cmp_total rights key right_new, sym (same_pair-is p pair same))
        | inr other ↦
            still_used p (are.used p (sym (ap is_some (other_key pair_cmp_total cells pair (padded new) p other)) ∙ there))
      ];
    }

-- ---- a detach

-- where some number is counted, one passes the test
counted : (test : ℕ → Bool) (xs : List ℕ) → 0 < count_by test xs → (n : ℕ) × (test n ≡ true)
counted test [] some = absurd (let none : 0 < 0 = some in omega arith)
counted test (x ∷ xs) some = elim (cases_Bool (test x)) [
  | inl passes ↦ (x, passes)
  | inr fails ↦
      counted test xs (omega (arith, sum_by-cons (λ (y : ℕ). cond (test y) 1 0) x xs, cond-false {A = ℕ} (test x) 1 0 fails, some))
]

-- a pair with users is used
user_is : (rights : Rights) (pair : Pair) → 0 < users rights pair → IsUsed rights pair
unfolding users
user_is rights pair some =
    let one = counted (λ n. is_about pair.file (fin.get rights (key_of_part pair.part n)))
    (range_with_len 0 (PROCESSES * DESCRIPTORS)) some in
    by one.0 (fin.get rights (key_of_part pair.part one.0)) refl one.1
  where
    by : (n : ℕ) (right : Option Right) → fin.get rights (key_of_part pair.part n) ≡ right → is_about pair.file right ≡ true → IsUsed rights pair
    by n None is about = absurd (false≢true about)
    by n (Some right) is about =
        let file : right.file ≡ pair.file = eqb-true right.file pair.file about in
        (key_of_part pair.part n, right, is, λ i. record { file = file i; part = pair.part })

-- a pair is the same as itself
pub tied_pair : (pair : Pair) → same_pair pair pair ≡ true
tied_pair pair = ap is_eq (tied_itself pair_cmp_total pair)

positive : (n : ℕ) → nat_eq n 0 ≡ false → 0 < n
positive n some = let differs : n ≢ 0 = eqb-false n 0 some in omega arith

pub cells_of_detach : (rights : Rights) (cells : CellMap) (s : Store) (key : Key) (gone : Right) → fin.get rights key ≡ Some gone →
    ((q : Key) (right : Right) → fin.get rights q ≡ Some right → IsKey q) → AreCells rights cells s →
    AreCells (fin.remove rights key) (drop_unused (fin.remove rights key) (pair_under key gone) cells) s
cells_of_detach rights cells s key gone attached keys are = by (nat_eq (users after pair) 0) refl
  where
    after : Rights
    after = fin.remove rights key

    pair : Pair
    pair = pair_under key gone

    -- an attached key was attached
    was : (q : Key) (right : Right) → fin.get after q ≡ Some right → fin.get rights q ≡ Some right
    was q right is = elim (cases_Bool (same_key q key)) [
      | inl same ↦ absurd (none-some right (sym (ap (fin.get after) (same_key-is q key same) ∙ same_key-remove key_cmp_total rights key) ∙ is))
      | inr other ↦ sym (other_key-remove key_cmp_total rights key q other) ∙ is
    ]

    -- a pair that was used still is, or is that of the detached key
    left_by : (p : Pair) → IsUsed rights p → IsUsed after p ⊎ (p ≡ pair)
    left_by p user = elim (cases_Bool (same_key user.0 key)) [
      | inl same ↦
          let at : user.0 ≡ key = same_key-is user.0 key same in
          let right_is : user.1 ≡ gone = same_Some user.1 gone (sym user.2 ∙ ap (fin.get rights) at ∙ attached) in
          inr (sym user.3 ∙ ap (λ (k : Key). pair_for user.1.file k) at ∙ ap (λ (r : Right). pair_for r.file key) right_is)
      | inr other ↦ inl (user.0, user.1, other_key-remove key_cmp_total rights key user.0 other ∙ user.2, user.3)
    ]

    by : (b : Bool) → nat_eq (users after pair) 0 ≡ b → AreCells after (cond b (fin.remove cells pair) cells) s
    by true unused = record {
      all = λ q right is.
          let has = are.all q right (was q right is) in
          let p = pair_under q right in
          let none : users after pair ≡ 0 = eqb-true (users after pair) 0 unused in
          let some : 0 < users after p = user-counts after q right is (keys q right (was q right is)) in
          let other : same_pair p pair ≡ false = elim (cases_Bool (same_pair p pair)) [
            | inl same ↦
                absurd
                (let counts : 0 < users after pair = subst (λ x. 0 < users after x) (same_pair-is p pair same) some in omega (arith, counts, none))
            | inr differs ↦ differs
          ] in
          record {
            its = has.its;
            there = other_key-remove pair_cmp_total cells pair p other ∙ has.there;
            size = has.size;
            looks = has.looks;
          };
      used = λ p there. elim (cases_Bool (same_pair p pair)) [
        | inl same ↦
            absurd (false≢true (sym (ap is_some (ap (fin.get (fin.remove cells pair)) (same_pair-is p pair same)
            ∙ same_key-remove pair_cmp_total cells pair)) ∙ there))
        | inr other ↦
            ⊎_elim (λ user. user)
            (λ same. absurd (both_ways (same_pair p pair) other (subst (λ x. same_pair x pair ≡ true) (sym same) (tied_pair pair))))
            (left_by p (are.used p (sym (ap is_some (other_key-remove pair_cmp_total cells pair p other)) ∙ there)))
      ];
    }
    by false some = record {
      all = λ q right is. are.all q right (was q right is);
      used = λ p there.
          ⊎_elim (λ user. user)
          (λ same. subst (IsUsed after) (sym same) (user_is after pair (positive (users after pair) some)))
          (left_by p (are.used p there));
    }
