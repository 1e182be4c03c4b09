-- What the entries of a call tell: as one more entry joins them, and at the end of the call.
use Rattle.std.proofs.Common.{◌≡◌, ℕ, zero, suc, ◌+◌, ◌<◌, ◌≤◌, Bool, true, false, ◌||◌, List, [], ◌∷◌, ◌++◌, Option, None, Some, length, get_or, map, take, arith, refl, sym, ap, ◌∙◌, subst, ⊎_elim}
use Rattle.std.specs.List.{find, list_any, range_with_len}
use Rattle.std.specs.Option.{option_copied}
use Rattle.std.proofs.lemmas.Bool.{both_ways, cases_Bool, cases_lt, cond-false, cond-true}
use Rattle.std.proofs.lemmas.List.Folds.{find-append}
use Rattle.std.proofs.lemmas.Option.{none-some, slice_get_cases}
use Rattle.bd_base.specs.declared.script.Call.{Call}
use Rattle.bd_base.specs.declared.script.Call.TheVariants.{Read, Write}
use Rattle.bd_base.specs.Scripts.{IsCall}
use Rattle.bd_entry.specs.declared.entry.Entry.{Entry}
use Rattle.bd_entry.specs.Calls.{is_answer_of, is_end_of, pieces_of_call}
use Rattle.bd_entry.proofs.RangesOfPieces.{piece_of_call-is}
use Rattle.bd_pieces.specs.declared.piece_list.TheConstants.{MOST_PIECES}
use Rattle.bd_report.specs.declared.notes.Notes.{Notes}
use Rattle.bd_report.specs.Replies.{answer_of, answers_of, end_of, ended_text}
use Rattle.bd_report.specs.Notes.{IsOfEnded, AreNotesOf, ends_by_pieces, first_of}

-- the first entry that passes, with one more entry
find-push : (p : Entry → Bool) (entries : List Entry) (entry : Entry) →
    find p (entries ++ entry ∷ []) ≡ first_of (find p entries) (p entry) entry
find-push p entries entry = find-append p entries (entry ∷ [])

-- one more entry was noted
pub AreNotesOf-push : (call : Call) (entries : List Entry) (entry : Entry) (notes new : Notes) → AreNotesOf call entries notes →
    option_copied new.end ≡ first_of (option_copied notes.end) (is_end_of call entry) entry →
    length new.answers ≡ length notes.answers →
    ((number : ℕ) → number < length notes.answers →
    option_copied (get_or new.answers number None)
    ≡ first_of (option_copied (get_or notes.answers number None)) (is_answer_of number entry) entry) →
    AreNotesOf call (entries ++ entry ∷ []) new
AreNotesOf-push call entries entry notes new tells end room answers = record {
  end = end ∙ ap (λ (o : Option Entry). first_of o (is_end_of call entry) entry) tells.end ∙ sym (find-push (is_end_of call) entries entry);
  room = room ∙ tells.room;
  answers = λ number few.
      answers number (subst (λ (n : ℕ). number < n) (sym tells.room) few)
      ∙ ap (λ (o : Option Entry). first_of o (is_answer_of number entry) entry) (tells.answers number few)
      ∙ sym (find-push (is_answer_of number) entries entry);
}

-- ---- a call that is finished

-- where none is found, none passes
list_any-find : (p : Entry → Bool) (entries : List Entry) → find p entries ≡ None → list_any p entries ≡ false
list_any-find p [] none = refl
list_any-find p (e ∷ entries) none =
    ⊎_elim
    (λ passes. absurd (none-some e (sym none ∙ cond-true (p e) (Some e) (find p entries) passes)))
    (λ fails.
    ap (λ (b : Bool). b || list_any p entries) fails
    ∙ list_any-find p entries (sym (cond-false (p e) (Some e) (find p entries) fails) ∙ none))
    (cases_Bool (p e))

-- a finished call that no entry ends alone is ended by its pieces
pub ended_by_pieces : (call : Call) (notes : Notes) → IsOfEnded call notes → notes.end ≡ None → ends_by_pieces call ≡ true
ended_by_pieces (Read fd off len) notes of none = refl
ended_by_pieces (Write fd off bytes) notes of none = refl
ended_by_pieces call notes of none =
    let no_end : list_any (is_end_of call) of.entries ≡ false =
    list_any-find (is_end_of call) of.entries (sym of.tells.end ∙ ap option_copied none) in
    absurd (both_ways (list_any (is_end_of call) of.entries) no_end of.ended)

-- the first so many of a list, as they are by their numbers
map-take : {X Y : Type 0} (f : X → Y) (g : ℕ → Y) (d : X) (xs : List X) (n a : ℕ) → n ≤ length xs →
    ((k : ℕ) → k < n → f (get_or xs k d) ≡ g (a + k)) → map f (take n xs) ≡ map g (range_with_len a n)
map-take f g d xs zero a few each = refl
map-take f g d [] (suc n) a few each = absurd (omega arith)
map-take f g d (x ∷ xs) (suc n) a few each =
    let first : f x ≡ g a = each 0 (omega arith) ∙ (let none : a + 0 ≡ a = omega arith in ap g none) in
    let rest : map f (take n xs) ≡ map g (range_with_len (a + 1) n) =
    map-take f g d xs n (a + 1) (omega arith)
    (λ k below. each (suc k) (omega arith) ∙ (let next : a + suc k ≡ a + 1 + k = omega arith in ap g next)) in
    ap (λ y. y ∷ map f (take n xs)) first ∙ ap (λ ys. g a ∷ ys) rest

-- a call has few pieces
pub few_pieces : (call : Call) → IsCall call → length (pieces_of_call call) ≤ MOST_PIECES
few_pieces call ok =
    ⊎_elim
    (λ more.
    ⊎_elim
    (λ found. absurd (omega (arith, (piece_of_call-is call MOST_PIECES found.0 ok found.2).number_is)))
    (λ past. absurd (omega (arith, more, past.0)))
    (slice_get_cases (pieces_of_call call) MOST_PIECES).1)
    (λ few. few)
    (cases_lt MOST_PIECES (length (pieces_of_call call)))

-- the answers that were noted are those of the call
pub noted_answers : (call : Call) (entries : List Entry) (notes : Notes) → IsCall call → AreNotesOf call entries notes →
    map option_copied (take (length (pieces_of_call call)) notes.answers) ≡ answers_of call entries
noted_answers call entries notes ok tells =
    let few : length (pieces_of_call call) ≤ MOST_PIECES = few_pieces call ok in
    map-take option_copied (answer_of entries) None notes.answers (length (pieces_of_call call)) 0 (omega (arith, few, tells.room))
    (λ k below. tells.answers k (omega (arith, few, below)) ∙ (let same : k ≡ 0 + k = omega arith in ap (answer_of entries) same))

-- the reply of a call that no entry ends alone
pub ended_text-by_pieces : (call : Call) (entries : List Entry) (notes : Notes) → AreNotesOf call entries notes → notes.end ≡ None →
    (answers : List (Option Entry)) →
    ended_text call None answers ≡ ended_text call (end_of call entries) answers
ended_text-by_pieces call entries notes tells none answers =
    ap (λ (o : Option Entry). ended_text call o answers) (sym (ap option_copied none) ∙ tells.end)
