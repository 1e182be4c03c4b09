-- When the entries of a call end it, by its last entry and the marks of its answered pieces.
use Rattle.std.proofs.Common.{◌≡◌, Bool, true, false, ◌||◌, ◌&&◌, List, [], ◌∷◌, ◌++◌, length, refl, sym, ap, ◌∙◌}
use Rattle.std.specs.List.{list_all, list_any, range_with_len}
use Rattle.std.proofs.lemmas.Bool.{or_parts}
use Rattle.std.proofs.lemmas.List.Folds.{list_any-append}
use Rattle.bd_base.specs.declared.script.Call.{Call}
use Rattle.bd_base.specs.declared.script.Call.TheVariants.{Read, Write}
use Rattle.bd_entry.specs.declared.entry.Entry.{Entry}
use Rattle.bd_entry.specs.Calls.{are_all_answered, is_answered, is_end_of, is_ended_by, pieces_of_call}
use Rattle.bd_kernel.specs.Kinds.{ends_by_pieces}
use Rattle.bd_kernel.specs.Marks.{AreMarksOf, Marks, is_marked}

or-false : (b : Bool) → b ≡ (b || false)
or-false true = refl
or-false false = refl

-- an entry of the call ends it, or the answers of its pieces
is_ended_by-is : (call : Call) (entries : List Entry) →
    is_ended_by call entries ≡ (list_any (is_end_of call) entries || (ends_by_pieces call && are_all_answered call entries))
is_ended_by-is (Read fd off len) entries = refl
is_ended_by-is (Write fd off bytes) entries = refl
is_ended_by-is call entries = or-false (list_any (is_end_of call) entries)

-- a test that passes for the same elements
list_all-same : {X : Type 0} (p q : X → Bool) (xs : List X) → ((x : X) → p x ≡ q x) → list_all p xs ≡ list_all q xs
list_all-same p q [] same = refl
list_all-same p q (x ∷ xs) same =
    ap (λ (b : Bool). b && list_all p xs) (same x) ∙ ap (λ (b : Bool). q x && b) (list_all-same p q xs same)

module _ (call : Call) (before : List Entry) (last : Entry) (m : Marks) (marks : AreMarksOf m (before ++ last ∷ []))
    (unfinished : is_ended_by call before ≡ false) where
  abbrev entries : List Entry
  entries = before ++ last ∷ []

  -- no entry but the last ends it
  ended-last : is_ended_by call entries ≡ (is_end_of call last || (ends_by_pieces call && are_all_answered call entries))
  ended-last =
      let none : list_any (is_end_of call) before ≡ false =
      (or_parts (list_any (is_end_of call) before) _ (sym (is_ended_by-is call before) ∙ unfinished)).0 in
      is_ended_by-is call entries
      ∙ ap (λ (b : Bool). b || (ends_by_pieces call && are_all_answered call entries))
      (list_any-append (is_end_of call) before (last ∷ [])
      ∙ ap (λ (b : Bool). b || (is_end_of call last || false)) none ∙ sym (or-false (is_end_of call last)))

  -- the last entry ends it
  pub ended_by_last : is_end_of call last ≡ true → true ≡ is_ended_by call entries
  ended_by_last is = sym (ended-last ∙ ap (λ (b : Bool). b || (ends_by_pieces call && are_all_answered call entries)) is)

  -- the last entry does not end it, and no answers do
  pub not_ended : is_end_of call last ≡ false → ends_by_pieces call ≡ false → false ≡ is_ended_by call entries
  not_ended is alone =
      sym (ended-last ∙ ap (λ (b : Bool). b || (ends_by_pieces call && are_all_answered call entries)) is
      ∙ ap (λ (b : Bool). b && are_all_answered call entries) alone)

  -- the answers of its pieces end it, where all are there
  pub ended_by_answers : is_end_of call last ≡ false → ends_by_pieces call ≡ true →
      list_all (is_marked m.answered) (range_with_len 0 (length (pieces_of_call call))) ≡ is_ended_by call entries
  ended_by_answers is in_pieces =
      list_all-same (is_marked m.answered) (λ number. is_answered number entries) (range_with_len 0 (length (pieces_of_call call)))
      (λ number. marks.answered number)
      ∙ sym (ended-last ∙ ap (λ (b : Bool). b || (ends_by_pieces call && are_all_answered call entries)) is
      ∙ ap (λ (b : Bool). b && are_all_answered call entries) in_pieces)
