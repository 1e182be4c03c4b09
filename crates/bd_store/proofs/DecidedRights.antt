-- What a test of a rule tells, where the entry or the descriptor is known.
use Rattle.std.proofs.Common.{◌≡◌, ◌↔◌, ℕ, Bool, true, false, not, None, Some, List, [], length, cond, refl, sym, ◌∙◌}
use Rattle.std.proofs.lemmas.Bool.{false≢true}
use Rattle.std.proofs.lemmas.List.{nil_from_length}
use Rattle.bd_entry.specs.Store.{Descriptor, Store, has_fragment, has_plain, lowest_unattached, next_part}

-- a list of no length is empty, and a test that finds nothing says so
pub none-iff : (xs : List ℕ) (some none : Bool) → length xs ≡ 0 → some ≡ not none → (none ≡ true) ↔ ((xs ≡ []) × (some ≡ false))
none-iff xs some true empty is = (λ no. (nil_from_length xs empty, is), λ both. refl)
none-iff xs some false empty is = (λ no. absurd (false≢true no), λ both. absurd (false≢true (sym both.1 ∙ is)))

some-or_none : (b : Bool) (part : ℕ) → (not b ≡ true) ↔ (cond b (Some part) None ≡ None)
some-or_none true part = (λ no. absurd (false≢true no), λ none. cc)
some-or_none false part = (λ no. refl, λ none. refl)

module _ (s : Store) (d : Descriptor) (part : ℕ) (low : lowest_unattached s d ≡ Some part) where
  -- beside a plain descriptor no right is given
  pub no_next-plain : has_plain s d.file ≡ true → next_part s d ≡ None
  no_next-plain plain = rw (low, plain) refl

  -- and otherwise one exactly where there is a fragment for it
  pub no_next-fragment : has_plain s d.file ≡ false → (not (has_fragment s d.file part) ≡ true) ↔ (next_part s d ≡ None)
  no_next-fragment none = rw (low, none) (some-or_none (has_fragment s d.file part) part)
