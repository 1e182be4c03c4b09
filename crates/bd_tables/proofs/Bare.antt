-- Books of fragments as tests build them.
use Rattle.std.proofs.Common.{◌≡◌, ◌≢◌, ℕ, Option, None, Some, List, [], IfSome, refl, sym, ap, ◌∙◌, subst, inl, inr}
use Rattle.std.specs.Prelude.{Result, Ok, Err, OnOk, OnErr}
use Rattle.std.specs.FinMap as fin
use Rattle.std.specs.FinMap.{get-insert}
use Rattle.std.proofs.lemmas.Bool.{cases_Bool, cond-true}
use Rattle.std.proofs.lemmas.List.{get_or-set_other}
use Rattle.std.proofs.lemmas.Option.{none-some, same_Some}
use Rattle.std.specs.Option.{option_map}
use Rattle.bd_base.specs.declared.key.Cell.{Cell}
use Rattle.bd_base.specs.Keys.{Pair, pair_cmp, pair_cmp_total, same_pair}
use Rattle.bd_file_table.specs.Fragments.{Book, Fragment, cell_at, fragment_with, padded, with_cell}
use Rattle.bd_tables.specs.Effects.{change}
use Rattle.bd_tables.specs.Kernel.{AgreesWith, ReachesUpTo, SharesOrBuilds, with_cells}
use Rattle.bd_tables.proofs.Maps.{other_key, same_key-change, same_key-insert}

-- what both an Ok and an Err show
pub either : {T E : Type 0} (r : Result T E) (A B C : Type 0) → OnOk r A → OnErr r B → (A → C) → (B → C) → C
either (Ok x) A B C ok err f g = f ok
either (Err e) A B C ok err f g = g err

-- no fragment has a filled cell
abbrev pub IsBare : Book → Type 0
IsBare book = (pair : Pair) (its : Fragment) → fin.get book pair ≡ Some its → its.cells ≡ padded []

pub empty-bare : IsBare fin.empty
empty-bare pair its found = absurd (none-some its (sym (fin.get-empty pair_cmp pair) ∙ found))

insert-bare : (book : Book) (pair : Pair) (number : ℕ) → IsBare book → IsBare (fin.insert book pair (fragment_with number (padded [])))
insert-bare book pair number bare p its found = elim (cases_Bool (same_pair p pair)) [
  | inl same ↦
      let there : Some (fragment_with number (padded [])) ≡ Some its =
      sym (get-insert pair_cmp_total book pair (fragment_with number (padded [])) p ∙ cond-true _ _ _ same) ∙ found in
      sym (ap (λ (f : Fragment). f.cells) (same_Some _ _ there))
  | inr differs ↦ bare p its (sym (other_key pair_cmp_total book pair (fragment_with number (padded [])) p differs) ∙ found)
]

pub shared-bare : (old new : Book) (pair : Pair) → IsBare old → SharesOrBuilds old pair [] new → IsBare new
shared-bare old new pair bare got = go (fin.get old pair) refl
  where
    go : (v : Option Fragment) → fin.get old pair ≡ v → IsBare new
    go None at = let built = got.builds at in subst IsBare (sym built.built) (insert-bare old pair built.number bare)
    go (Some its) at = subst IsBare (sym (got.shares its at)) bare

pub bare-agrees : (book : Book) (pair : Pair) → IsBare book → AgreesWith book pair []
bare-agrees book pair bare = go (fin.get book pair) refl
  where
    go : (v : Option Fragment) → fin.get book pair ≡ v → IfSome v (λ fragment. fragment.cells ≡ padded [])
    go None at = tt
    go (Some its) at = bare pair its at

-- a pair that had no fragment has one with these cells
pub built-get : (old new : Book) (pair : Pair) (cells : List Cell) → fin.get old pair ≡ None → SharesOrBuilds old pair cells new →
    (number : ℕ) × (fin.get new pair ≡ Some (fragment_with number (padded cells)))
built-get old new pair cells none got =
    let built = got.builds none in
    (built.number, ap (λ (b : Book). fin.get b pair) built.built ∙ same_key-insert pair_cmp_total old pair (fragment_with built.number (padded cells)))

-- an entry reaches as far as before where another one of its part is filled
pub filled-beside : (book : Book) (pair : Pair) (i j limit : ℕ) (cell : Cell) → i ≢ j →
    IfSome (fin.get book pair) (λ fragment. ReachesUpTo limit (cell_at fragment.cells i)) →
    IfSome (fin.get (change book pair (with_cells (with_cell j cell))) pair) (λ fragment. ReachesUpTo limit (cell_at fragment.cells i))
filled-beside book pair i j limit cell apart up =
    subst (λ (v : Option Fragment). IfSome v (λ fragment. ReachesUpTo limit (cell_at fragment.cells i)))
    (sym (same_key-change pair_cmp_total book pair (with_cells (with_cell j cell)))) (go (fin.get book pair) up)
  where
    go : (v : Option Fragment) → IfSome v (λ fragment. ReachesUpTo limit (cell_at fragment.cells i)) →
        IfSome (option_map (with_cells (with_cell j cell)) v) (λ fragment. ReachesUpTo limit (cell_at fragment.cells i))
    go None up = tt
    go (Some fragment) up = subst (ReachesUpTo limit) (sym (get_or-set_other fragment.cells j i (Some cell) None apart)) up
