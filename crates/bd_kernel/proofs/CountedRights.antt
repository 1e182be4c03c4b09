-- The pairs with a right are counted still after a right is attached or detached.
use Rattle.std.proofs.Common.{◌≡◌, ℕ, ◌+◌, ◌-◌, ◌<◌, ◌≤◌, Bool, true, false, ◌||◌, Option, None, Some, List, [], ◌∷◌, length, zero, suc, sym, ap, ◌∙◌}
use Rattle.std.proofs.Common.{subst, arith, set, get_or, length-set, ⊎_elim}
use Rattle.std.specs.List.{list_any}
use Rattle.std.specs.Option.{option_map}
use Rattle.std.proofs.lemmas.Bool.{or_cases, or_left}
use Rattle.std.proofs.lemmas.Option.{none-some}
use Rattle.bd_base.specs.declared.limits.TheConstants.{PROCESSES}
use Rattle.bd_entry.specs.Effects.{attach, detach}
use Rattle.bd_entry.specs.Store.{Descriptor, has_part, same_pair}
use Rattle.bd_entry.proofs.PairsInUse.{has_pair, same_pair-true}
use Rattle.bd_kernel.specs.Changes.{AreCounted, IsPair, Rows, changed_rows, pairs_of_rows, rows_with_slot, slot_at}
use Rattle.bd_kernel.proofs.PairCounts.{IsJoined, in_use-uses, one_more, pairs-with_part, pairs-without_part, same_count, uses, uses-before_slot, uses-slot}

-- a descriptor that is open is one of those of a process
record IsThere (rows : Rows) (process fd : ℕ) : Type 0 where
  row : process < length rows
  slot : fd < length (get_or rows process [])

slot-there : (rows : Rows) (process fd : ℕ) (d : Descriptor) → slot_at rows process fd ≡ Some d → IsThere rows process fd
slot-there rows process fd d found =
    let slot = slot-within (get_or rows process []) fd found in record { row = row-within rows process slot; slot = slot }
  where
    slot-within : (slots : List (Option Descriptor)) (i : ℕ) → get_or slots i None ≡ Some d → i < length slots
    slot-within [] i found = absurd (none-some d found)
    slot-within (x ∷ slots) zero found = omega arith
    slot-within (x ∷ slots) (suc i) found = let more : i < length slots = slot-within slots i found in omega arith

    row-within : (rows : Rows) (i : ℕ) → fd < length (get_or rows i []) → i < length rows
    row-within [] i within = absurd (omega arith)
    row-within (x ∷ rows) zero within = omega arith
    row-within (x ∷ rows) (suc i) within = let more : i < length rows = row-within rows i within in omega arith

few_rows : (rows : Rows) (process fd : ℕ) (slot : Option Descriptor) → length rows ≤ PROCESSES →
    length (rows_with_slot rows process fd slot) ≤ PROCESSES
few_rows rows process fd slot few = omega (arith, length-set rows process (set (get_or rows process []) fd slot))

-- what counts the pairs after a right is attached, by whether its pair had one
pub record CountsAttached (pairs : ℕ) (after : Rows) (used : Bool) : Type 0 where
  pub first : used ≡ false → AreCounted (pairs + 1) after
  pub again : used ≡ true → AreCounted pairs after

-- what counts the pairs after a right is detached, by whether its pair has another
pub record CountsDetached (pairs : ℕ) (after : Rows) (used : Bool) : Type 0 where
  pub counted : used ≡ false → 1 ≤ pairs
  pub last : used ≡ false → AreCounted (pairs - 1) after
  pub other : used ≡ true → AreCounted pairs after

module _ (pairs : ℕ) (rows : Rows) (process fd part : ℕ) (d : Descriptor) (found : slot_at rows process fd ≡ Some d) (counted : AreCounted pairs rows) where
  abbrev pair : ℕ × ℕ
  pair = (d.file, part)

  -- the slot, and the rows, after a right is attached, and after one is detached
  abbrev slot_with : Option Descriptor
  slot_with = option_map (attach part) (slot_at rows process fd)

  abbrev slot_without : Option Descriptor
  slot_without = option_map (detach part) (slot_at rows process fd)

  abbrev more : Rows
  more = rows_with_slot rows process fd slot_with

  abbrev less : Rows
  less = rows_with_slot rows process fd slot_without

  joins : IsJoined rows more pair
  joins =
      let place = slot-there rows process fd d found in
      record {
        joined = λ q.
            uses-slot rows process fd slot_with q (same_pair q pair) place.row place.slot
            (subst (λ (slot : Option Descriptor). has_pair q (option_map (attach part) slot) ≡ (has_pair q slot || same_pair q pair)) (sym found)
            (pairs-with_part q d.file part d.attached));
      }

  there-more : IsPair pair → (q : ℕ × ℕ) → list_any (same_pair q) (pairs_of_rows more) ≡ true → IsPair q
  there-more is q used =
      ⊎_elim
      (λ before. counted.there q (in_use-uses q rows ∙ before))
      (λ here. subst IsPair (sym (same_pair-true q pair here)) is)
      (or_cases (uses rows q) (same_pair q pair) (sym (joins.joined q) ∙ sym (in_use-uses q more) ∙ used))

  pub counts-attached : IsPair pair → CountsAttached pairs (changed_rows rows process fd (attach part)) (uses rows pair)
  counts-attached is = record {
    first = λ unused.
        let one : length (pairs_of_rows more) ≡ length (pairs_of_rows rows) + 1 = one_more rows more pair joins (in_use-uses pair rows ∙ unused) in
        record {
          few = few_rows rows process fd slot_with counted.few;
          counted = ap (λ (n : ℕ). n + 1) counted.counted ∙ sym one;
          there = there-more is;
        };
    again = λ used.
        let same : length (pairs_of_rows more) ≡ length (pairs_of_rows rows) = same_count rows more pair joins (in_use-uses pair rows ∙ used) in
        record {
          few = few_rows rows process fd slot_with counted.few;
          counted = counted.counted ∙ sym same;
          there = there-more is;
        };
  }

  leaves : has_part part d.attached ≡ true → IsJoined less rows pair
  leaves has =
      let place = slot-there rows process fd d found in
      record {
        joined = λ q.
            uses-before_slot rows process fd slot_without q (same_pair q pair) place.row place.slot
            (subst (λ (slot : Option Descriptor). has_pair q slot ≡ (has_pair q (option_map (detach part) slot) || same_pair q pair)) (sym found)
            (pairs-without_part q d.file part d.attached has));
      }

  there-less : has_part part d.attached ≡ true → (q : ℕ × ℕ) → list_any (same_pair q) (pairs_of_rows less) ≡ true → IsPair q
  there-less has q used =
      let before : uses rows q ≡ true = (leaves has).joined q ∙ or_left (uses less q) (same_pair q pair) (sym (in_use-uses q less) ∙ used) in
      counted.there q (in_use-uses q rows ∙ before)

  pub counts-detached : has_part part d.attached ≡ true → CountsDetached pairs (changed_rows rows process fd (detach part)) (uses less pair)
  counts-detached has =
      let one = λ (unused : uses less pair ≡ false). counted.counted ∙ one_more less rows pair (leaves has) (in_use-uses pair less ∙ unused) in
      record {
        counted = λ unused. let is : pairs ≡ length (pairs_of_rows less) + 1 = one unused in omega arith;
        last = λ unused.
            let is : pairs ≡ length (pairs_of_rows less) + 1 = one unused in
            record {
              few = few_rows rows process fd slot_without counted.few;
              counted = omega arith;
              there = there-less has;
            };
        other = λ used. record {
          few = few_rows rows process fd slot_without counted.few;
          counted = counted.counted ∙ same_count less rows pair (leaves has) (in_use-uses pair less ∙ used);
          there = there-less has;
        };
      }
