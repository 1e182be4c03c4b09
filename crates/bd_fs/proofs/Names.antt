-- Names as keys of a map, by their bytes.
use Rattle.std.proofs.Common.{◌≡◌, ℕ, Bool, true, false, cond, List, Option, sym, ◌∙◌, inl, inr, subst}
use Rattle.std.specs.Cmp.Lexicographic.{bytes_decides, nat_list_eq_equiv}
use Rattle.std.specs.Map.{lookup, KeepsOthers}
use Rattle.std.specs.Str.{bytes_eq}
use Rattle.std.proofs.lemmas.Bool.{cases_Bool, cond-true, cond-false}

apart : (bs cs ks : List ℕ) → bytes_eq bs cs ≡ false → bytes_eq bs ks ≡ true → bytes_eq cs ks ≡ false
apart bs cs ks differ same = nat_list_eq_equiv.symm cs ks ∙ sym (nat_list_eq_equiv.congr bs ks cs same) ∙ differ

-- whether a key has these bytes
abbrev pub has_bytes : {K : Type 0} → (K → List ℕ) → List ℕ → K → Bool
has_bytes text bs key = bytes_eq bs (text key)

module _ {K X : Type 0} (text : K → List ℕ) where
  others : (bs : List ℕ) (old new : List (K × X))
      → KeepsOthers (λ x y. bytes_eq (text x) (text y)) (has_bytes text bs) old new → (cs : List ℕ)
      → bytes_eq bs cs ≡ false → lookup (has_bytes text cs) new ≡ lookup (has_bytes text cs) old
  unfolding KeepsOthers
  others bs old new keeps cs differ =
      keeps (has_bytes text cs) (λ x y. nat_list_eq_equiv.congr cs (text x) (text y)) (λ key. apart bs cs (text key) differ)

  -- what is found after a change at one key: the new value there, and what was found before elsewhere
  pub lookup-changed : (bs : List ℕ) (old new : List (K × X)) (value : Option X)
      → KeepsOthers (λ x y. bytes_eq (text x) (text y)) (has_bytes text bs) old new
      → lookup (has_bytes text bs) new ≡ value → (cs : List ℕ)
      → lookup (has_bytes text cs) new ≡ cond (bytes_eq bs cs) value (lookup (has_bytes text cs) old)
  lookup-changed bs old new value keeps here cs =
      elim (cases_Bool (bytes_eq bs cs)) [
        | inl same ↦ subst (λ l. lookup (has_bytes text l) new ≡ value) ((bytes_decides bs cs).0 same) here
            ∙ sym (cond-true (bytes_eq bs cs) value _ same)
        | inr differ ↦ others bs old new keeps cs differ ∙ sym (cond-false (bytes_eq bs cs) value _ differ)
      ]
