-- A pool with no fragment in use.
use Rattle.std.proofs.Common.{◌≡◌, ℕ, zero, suc, ◌*◌, cond, Option, None, List, ◌∷◌, length, map, is_some, refl, sym, ap, ◌∙◌, get_or, replicate}
use Rattle.std.proofs.lemmas.List.{get_or-replicate, length-replicate}
use Rattle.std.proofs.lemmas.List.Folds.{sum_by-replicate}
use Rattle.std.proofs.lemmas.Option.{none-some}
use Rattle.std.specs.FinMap as fin
use Rattle.bd_base.specs.declared.limits.TheConstants.{FILES, FRAGMENTS, PARTS, PART_BLOCKS}
use Rattle.bd_base.specs.Keys.{pair_cmp, pair_of}
use Rattle.bd_base.specs.Slots.{slots_map, slots_map-none}
use Rattle.bd_file_table.specs.declared.pool.Owner.{Owner}
use Rattle.bd_file_table.specs.declared.pool.Slot.{Slot}
use Rattle.bd_file_table.specs.Fragments.{Fragment}
use Rattle.bd_file_table.specs.Kept.{IsPool, book_of, fragment_at}
use Rattle.bd_file_table.specs.Slots.{is_owned, no_slot, slot_at}

map-none : (slots : List Slot) (n : ℕ) → map (fragment_at slots) (replicate n None) ≡ replicate n None
map-none slots zero = refl
map-none slots (suc n) = ap (λ fs. None ∷ fs) (map-none slots n)

pub book_of-none : (slots : List Slot) (n : ℕ) → book_of slots (replicate n None) ≡ fin.empty
book_of-none slots n = ap (slots_map pair_cmp pair_of) (map-none slots n) ∙ slots_map-none pair_cmp pair_of n

no_number : (n i : ℕ) → get_or (replicate {A = Option ℕ} n None) i None ≡ None
no_number zero i = refl
no_number (suc n) zero = refl
no_number (suc n) (suc i) = no_number n i

no_owner : (slot : Slot) → slot.owner ≡ None → (n i : ℕ) → (slot_at (replicate n slot) i).owner ≡ None
no_owner slot none zero i = refl
no_owner slot none (suc n) zero = none
no_owner slot none (suc n) (suc i) = no_owner slot none n i

pub IsPool-none : (slot : Slot) → slot.owner ≡ None → length slot.cells ≡ PART_BLOCKS → (slots : List Slot) (numbers : List (Option ℕ)) →
    slots ≡ replicate FRAGMENTS slot → numbers ≡ replicate (FILES * PARTS) None → IsPool slots numbers 0
IsPool-none slot none wide slots numbers s n =
    let p : IsPool (replicate FRAGMENTS slot) (replicate (FILES * PARTS) None) 0 = record {
      places = length-replicate FRAGMENTS slot;
      pairs = length-replicate {A = Option ℕ} (FILES * PARTS) None;
      owned = λ pair number is. absurd (none-some number (sym (no_number (FILES * PARTS) pair) ∙ is));
      owner = λ pair number is. absurd (none-some number (sym (no_number (FILES * PARTS) pair) ∙ is));
      known = λ number owner is. absurd (none-some owner (sym (no_owner slot none FRAGMENTS number) ∙ is));
      wide = λ number below. ap (λ (s : Slot). length s.cells) (get_or-replicate FRAGMENTS number slot no_slot below) ∙ wide;
      count = sym (sum_by-replicate (λ s. cond (is_owned s) 1 0) FRAGMENTS slot ∙ ap (λ (o : Option Owner). FRAGMENTS * cond (is_some o) 1 0) none);
      total = sym (ap fin.len (book_of-none (replicate FRAGMENTS slot) (FILES * PARTS)) ∙ fin.len-empty pair_cmp Fragment);
    } in
    rw (s, n) p
