-- The number of extents of a list of blocks, as a block is appended.
use Rattle.std.proofs.Common.{◌≡◌, ℕ, suc, ◌+◌, not, nat_eq, List, [], ◌∷◌}
use Rattle.std.proofs.Common.{◌++◌, length, add-zero, add-one, arith, refl, sym}
use Rattle.std.proofs.Common.{inl, inr}
use Rattle.std.proofs.lemmas.Bool.{cases_eq, eq-eqb, ne_eqb}
use Rattle.bd_base.specs.declared.volume.Extent.{Extent}
use Rattle.bd_base.specs.Allocation.{last_block}
use Rattle.bd_base.specs.Extents.{extents_of, is_extent_start, with_front_block}
use Rattle.bd_base.proofs.Counts.{one_if}
use Rattle.bd_base.proofs.Lists.{last_block-cons}

front_front : (b c : ℕ) (es : List Extent) → length (with_front_block b (with_front_block c es))
    ≡ length (with_front_block c es) + one_if (not (nat_eq c (b + 1)))
front_front b c [] =
    elim (cases_eq c (b + 1)) [
      | inl joins ↦ rw (eq-eqb c (b + 1) joins) refl
      | inr apart ↦ rw (ne_eqb c (b + 1) apart) refl
    ]
front_front b c (e ∷ es) =
    elim (cases_eq e.start (c + 1)) [
      | inl next ↦
          elim (cases_eq c (b + 1)) [
            | inl joins ↦ rw (eq-eqb e.start (c + 1) next, eq-eqb c (b + 1) joins) (sym (add-zero (suc (length es))))
            | inr apart ↦ rw (eq-eqb e.start (c + 1) next, ne_eqb c (b + 1) apart) (sym (add-one (suc (length es))))
          ]
      | inr far ↦
          elim (cases_eq c (b + 1)) [
            | inl joins ↦ rw (ne_eqb e.start (c + 1) far, eq-eqb c (b + 1) joins) (sym (add-zero (suc (suc (length es)))))
            | inr apart ↦ rw (ne_eqb e.start (c + 1) far, ne_eqb c (b + 1) apart) (sym (add-one (suc (suc (length es)))))
          ]
    ]

-- one more block
pub extent_count-push : (bs : List ℕ) (b : ℕ) → length (extents_of (bs ++ b ∷ []))
    ≡ length (extents_of bs) + one_if (is_extent_start (last_block bs) b)
extent_count-push [] b = refl
extent_count-push (a ∷ []) b = front_front a b []
extent_count-push (a ∷ c ∷ cs) b =
    let more : length (extents_of (a ∷ c ∷ (cs ++ b ∷ [])))
    ≡ length (extents_of (c ∷ (cs ++ b ∷ []))) + one_if (not (nat_eq c (a + 1))) =
    front_front a c (extents_of (cs ++ b ∷ [])) in
    let fewer : length (extents_of (a ∷ c ∷ cs)) ≡ length (extents_of (c ∷ cs)) + one_if (not (nat_eq c (a + 1))) = front_front a c (extents_of cs) in
    let rest : length (extents_of (c ∷ (cs ++ b ∷ [])))
    ≡ length (extents_of (c ∷ cs)) + one_if (is_extent_start (last_block (c ∷ cs)) b) =
    extent_count-push (c ∷ cs) b in
    let last : last_block (a ∷ c ∷ cs) ≡ last_block (c ∷ cs) = last_block-cons a c cs in
    rw last (omega (arith, more, fewer, rest))
