-- What the changes of plain tables are on the state of the tables.
use Rattle.std.proofs.Common.{◌≡◌, ℕ, zero, suc, ◌<◌, Bool, true, false, cond, Option, None, Some, List, [], ◌∷◌, length, is_some, refl, sym, ap, ◌∙◌, arith, set, replicate}
use Rattle.std.specs.FinMap as fin
use Rattle.std.specs.Option.{option_map}
use Rattle.std.proofs.lemmas.List.{get_or-set_same, get_or-set_other, map-set}
use Rattle.std.proofs.lemmas.Option.{none-some}
use Rattle.bd_base.specs.declared.key.Cell.{Cell}
use Rattle.bd_base.specs.declared.key.Key.{Key}
use Rattle.bd_base.specs.Keys.{Pair, pair_cmp_total, pair_cmp-IsAntisymmetric}
use Rattle.bd_file_table.specs.Fragments.{Book, Cells, Fragment, padded}
use Rattle.bd_tables.specs.declared.plain.PlainPass.{PlainPass}
use Rattle.bd_tables.specs.declared.state.Right.{Right}
use Rattle.bd_tables.specs.declared.state.Walk.{Walk}
use Rattle.bd_tables.specs.declared.state.Walk.TheVariants.{Idle}
use Rattle.bd_tables.specs.Answers.{GivesBack}
use Rattle.bd_tables.specs.Effects.{after_detach, change}
use Rattle.bd_tables.specs.Kernel.{SharesOrBuilds, with_cells}
use Rattle.bd_tables.specs.Passes.{IsLent, process_of_pass}
use Rattle.bd_tables.specs.Plain.{Places, PlainState, cells_of, its_cells, place_at, walk_of, walks_of}
use Rattle.bd_tables.specs.State.{CellMap, Rights, walk_at}
use Rattle.bd_tables.proofs.Maps.{get-map_values, map_values-change, map_values-empty, map_values-insert, map_values-remove}

-- ---- the cells of a book

pub get-cells_of : (book : Book) (pair : Pair) → fin.get (cells_of book) pair ≡ option_map its_cells (fin.get book pair)
get-cells_of book pair = get-map_values pair_cmp_total its_cells book pair

pub cells_of-empty : cells_of fin.empty ≡ fin.empty
cells_of-empty = map_values-empty pair_cmp_total pair_cmp-IsAntisymmetric its_cells

pub cells_of-change : (book : Book) (pair : Pair) (f : Cells → Cells) → cells_of (change book pair (with_cells f)) ≡ change (cells_of book) pair f
cells_of-change book pair f =
    map_values-change pair_cmp_total pair_cmp-IsAntisymmetric its_cells book pair (with_cells f) f (λ fragment. refl)

share_or_build : CellMap → Pair → Cells → Bool → CellMap
share_or_build cells pair new b = cond b cells (fin.insert cells pair new)

pub cells_of-shared : (old : Book) (pair : Pair) (cells : List Cell) (new : Book) → SharesOrBuilds old pair cells new →
    cells_of new ≡ cond (fin.contains_key (cells_of old) pair) (cells_of old) (fin.insert (cells_of old) pair (padded cells))
unfolding share_or_build
cells_of-shared old pair cells new step = go (fin.get old pair) refl
  where
    go : (v : Option Fragment) → fin.get old pair ≡ v →
        cells_of new ≡ share_or_build (cells_of old) pair (padded cells) (fin.contains_key (cells_of old) pair)
    go None is =
        let built = step.builds is in
        let there : fin.get (cells_of old) pair ≡ None = get-cells_of old pair ∙ ap (option_map its_cells) is in
        ap cells_of built.built ∙ map_values-insert pair_cmp_total pair_cmp-IsAntisymmetric its_cells old pair _
        ∙ sym (ap (λ v. share_or_build (cells_of old) pair (padded cells) (is_some v)) there)
    go (Some fragment) is =
        let there : fin.get (cells_of old) pair ≡ Some fragment.cells = get-cells_of old pair ∙ ap (option_map its_cells) is in
        ap cells_of (step.shares fragment is)
        ∙ sym (ap (λ v. share_or_build (cells_of old) pair (padded cells) (is_some v)) there)

cells_of-cond : (b : Bool) (book : Book) (pair : Pair) →
    cells_of (cond b (fin.remove book pair) book) ≡ cond b (fin.remove (cells_of book) pair) (cells_of book)
cells_of-cond true book pair = map_values-remove pair_cmp_total pair_cmp-IsAntisymmetric its_cells book pair
cells_of-cond false book pair = refl

pub cells_of-detach : (rights : Rights) (key : Key) (right : Option Right) (book : Book) →
    cells_of (after_detach rights key right book) ≡ after_detach rights key right (cells_of book)
cells_of-detach rights key None book = refl
cells_of-detach rights key (Some right) book = cells_of-cond _ book _

-- ---- passes

pub walks_of-set : (places : Places) (process : ℕ) (place : Option Walk) →
    walks_of (set places process place) ≡ set (walks_of places) process (walk_of place)
walks_of-set places process place = map-set walk_of places process place

pub walk_at-places : (places : Places) (process : ℕ) → walk_at (walks_of places) process ≡ walk_of (place_at places process)
walk_at-places [] process = refl
walk_at-places (place ∷ places) zero = refl
walk_at-places (place ∷ places) (suc process) = walk_at-places places process

pub place-within : (places : Places) (process : ℕ) (walk : Walk) → place_at places process ≡ Some walk → process < length places
place-within [] process walk is = absurd (none-some walk is)
place-within (place ∷ places) zero walk is = omega arith
place-within (place ∷ places) (suc process) walk is = let rest = place-within places process walk is in omega arith

-- a set of what stands there already
pub walks_of-idle : (places : Places) (process : ℕ) → place_at places process ≡ None → walks_of (set places process (Some Idle)) ≡ walks_of places
walks_of-idle [] process here = refl
walks_of-idle (place ∷ places) zero here = ap (λ p. walk_of p ∷ walks_of places) (sym here)
walks_of-idle (place ∷ places) (suc process) here = ap (λ ws. walk_of place ∷ ws) (walks_of-idle places process here)

pub walks_of-none : (places : Places) (process : ℕ) → place_at places process ≡ Some Idle → walks_of (set places process None) ≡ walks_of places
walks_of-none [] process here = refl
walks_of-none (place ∷ places) zero here = ap (λ p. walk_of p ∷ walks_of places) (sym here)
walks_of-none (place ∷ places) (suc process) here = ap (λ ws. walk_of place ∷ ws) (walks_of-none places process here)

pub walks_of-new : (n : ℕ) → walks_of (replicate n None) ≡ replicate n Idle
walks_of-new zero = refl
walks_of-new (suc n) = ap (λ ws. Idle ∷ ws) (walks_of-new n)

pub gives_back : (old new : PlainState) (given back : PlainPass) → IsLent old given → back.process ≡ given.process →
    new.places ≡ set old.places given.process (Some back.walk) → GivesBack IsLent process_of_pass old new given back
gives_back old new given back lent same places = record {
  ours =
      ap (λ (ps : Places). place_at ps back.process) places ∙ ap (λ p. place_at (set old.places given.process (Some back.walk)) p) same
      ∙ get_or-set_same old.places given.process (Some back.walk) None (place-within old.places given.process given.walk lent);
  same_process = same;
  others = λ pass other was.
      ap (λ (ps : Places). place_at ps pass.process) places
      ∙ get_or-set_other old.places given.process pass.process (Some back.walk) None other ∙ was;
}
