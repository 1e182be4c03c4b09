-- On what a reply rests, and what it tells.
use Rattle.std.proofs.Common.{◌≡◌, ◌≢◌, ℕ, zero, suc, Bool, true, false, cond, List, [], ◌∷◌, ◌++◌, Option, None, Some, length, map, arith, refl, sym, ap, ◌∙◌, ⊎_elim}
use Rattle.std.specs.List.{find, range_with_len}
use Rattle.std.specs.Option.{option_map_or, option_or}
use Rattle.std.proofs.lemmas.Bool.{cases_Bool, cond-false, cond-true, eqb-true, false≢true}
use Rattle.std.proofs.lemmas.List.Elements.{filter-append}
use Rattle.std.proofs.lemmas.List.Folds.{find-append}
use Rattle.std.proofs.lemmas.Option.{none-some, same_Some}
use Rattle.bd_base.specs.declared.journal.At.{At}
use Rattle.bd_base.specs.declared.reason.Reason.{Reason}
use Rattle.bd_base.specs.declared.script.Call.{Call}
use Rattle.bd_base.specs.declared.script.Call.TheVariants.{Read, Write}
use Rattle.bd_base.specs.declared.script.Script.{Script}
use Rattle.bd_base.specs.Pieces.{pieces}
use Rattle.bd_entry.specs.declared.entry.Entry.{Entry}
use Rattle.bd_entry.specs.declared.entry.Entry.TheVariants.{Access, Refused}
use Rattle.bd_entry.specs.Calls.{at_of, call_at, entries_of, is_answer_of, is_end_of, pieces_of_call, same_call}
use Rattle.bd_entry.specs.Texts.{reason_text}
use Rattle.bd_pieces.specs.Gathered.{gathered_bytes}
use Rattle.bd_pieces.proofs.FirstParts.{first_bytes}
use Rattle.bd_report.specs.Laws.{IsFirstRefusal, OtherCallsDoNotMatter, PiecesComeInAnyOrder, ReadsTellFirstPieces, WritesTellFirstRefusal}
use Rattle.bd_report.specs.Replies.{answers_of, call_text, end_of, first_reason, parts_of, piece_reason, pieces_text, reply_text, ended_text, wrote_text}
use Rattle.bd_report.specs.Notes.{ends_by_pieces}
use Rattle.bd_report.proofs.Lines.{reply_of_call}

-- ---- the entries of other calls

-- the same entries of a call, the same reply
same_reply : (script : Script) (journal other : List Entry) (at : At) → entries_of at journal ≡ entries_of at other →
    reply_text script journal at ≡ reply_text script other at
same_reply script journal other at same =
    ap (λ (entries : List Entry). option_map_or (λ (call : Call). call_text call entries) (call_at script at) []) same

-- an entry of another call among the entries
left_out : (front back : List Entry) (e : Entry) (at : At) → same_call (at_of e) at ≡ false →
    entries_of at (front ++ e ∷ back) ≡ entries_of at (front ++ back)
left_out front back e at other =
    let mine : Entry → Bool = λ entry. same_call (at_of entry) at in
    filter-append mine front (e ∷ back)
    ∙ ap (λ (rest : List Entry). entries_of at front ++ rest) (cond-false (same_call (at_of e) at) (e ∷ entries_of at back) (entries_of at back) other)
    ∙ sym (filter-append mine front back)

pub other_calls_do_not_matter : OtherCallsDoNotMatter
other_calls_do_not_matter script front back e at other = same_reply script (front ++ e ∷ back) (front ++ back) at (left_out front back e at other)

-- ---- the order of the pieces

-- two neighbours of which at most one passes
find-swap : (p : Entry → Bool) (front back : List Entry) (e f : Entry) → (p e ≡ true → p f ≡ true → ⊥) →
    find p (front ++ e ∷ f ∷ back) ≡ find p (front ++ f ∷ e ∷ back)
find-swap p front back e f one =
    find-append p front (e ∷ f ∷ back)
    ∙ ap (option_or (find p front)) (neighbours (p e) (p f) one)
    ∙ sym (find-append p front (f ∷ e ∷ back))
  where
    neighbours : (first second : Bool) → (first ≡ true → second ≡ true → ⊥) →
        cond first (Some e) (cond second (Some f) (find p back)) ≡ cond second (Some f) (cond first (Some e) (find p back))
    neighbours true true one = absurd (one refl refl)
    neighbours true false one = refl
    neighbours false true one = refl
    neighbours false false one = refl

-- an entry answers one piece
one_piece : (e : Entry) (i j : ℕ) → is_answer_of i e ≡ true → is_answer_of j e ≡ true → i ≡ j
one_piece (Access at piece fd file index block range wrote way bytes) i j is also = sym (eqb-true piece i is) ∙ eqb-true piece j also
one_piece (Refused at (Some piece) reason) i j is also = sym (eqb-true piece i is) ∙ eqb-true piece j also
one_piece other i j is also = absurd (false≢true is)

-- and does not end a read or a write alone
answers_end_none : (call : Call) (e : Entry) (i : ℕ) → ends_by_pieces call ≡ true → is_answer_of i e ≡ true → is_end_of call e ≡ false
answers_end_none (Read fd off len) (Access at piece by file index block range wrote way bytes) i by_pieces is = refl
answers_end_none (Write fd off put) (Access at piece by file index block range wrote way bytes) i by_pieces is = refl
answers_end_none (Read fd off len) (Refused at (Some piece) reason) i by_pieces is = refl
answers_end_none (Write fd off put) (Refused at (Some piece) reason) i by_pieces is = refl
answers_end_none (Read fd off len) other i by_pieces is = absurd (false≢true is)
answers_end_none (Write fd off put) other i by_pieces is = absurd (false≢true is)
answers_end_none call other i by_pieces is = absurd (false≢true by_pieces)

-- the entries of a call in another order of two of its pieces
call_text-swap : (call : Call) (front back : List Entry) (e f : Entry) (i j : ℕ) → ends_by_pieces call ≡ true →
    is_answer_of i e ≡ true → is_answer_of j f ≡ true → i ≢ j →
    call_text call (front ++ e ∷ f ∷ back) ≡ call_text call (front ++ f ∷ e ∷ back)
call_text-swap call front back e f i j by_pieces is_e is_f differ =
    let end : end_of call (front ++ e ∷ f ∷ back) ≡ end_of call (front ++ f ∷ e ∷ back) =
    find-swap (is_end_of call) front back e f
    (λ ends other. false≢true (sym (answers_end_none call e i by_pieces is_e) ∙ ends)) in
    ap (λ (o : Option Entry). ended_text call o (answers_of call (front ++ e ∷ f ∷ back))) end
    ∙ ap (λ (answers : List (Option Entry)). ended_text call (end_of call (front ++ f ∷ e ∷ back)) answers)
    (same_answers (range_with_len 0 (length (pieces_of_call call))))
  where
    same_answers : (numbers : List ℕ) →
        map (λ number. find (is_answer_of number) (front ++ e ∷ f ∷ back)) numbers
        ≡ map (λ number. find (is_answer_of number) (front ++ f ∷ e ∷ back)) numbers
    same_answers [] = refl
    same_answers (n ∷ numbers) =
        let first : find (is_answer_of n) (front ++ e ∷ f ∷ back) ≡ find (is_answer_of n) (front ++ f ∷ e ∷ back) =
        find-swap (is_answer_of n) front back e f
        (λ of_e of_f. differ (one_piece e i n is_e of_e ∙ sym (one_piece f j n is_f of_f))) in
        ap (λ (o : Option Entry). o ∷ map (λ number. find (is_answer_of number) (front ++ e ∷ f ∷ back)) numbers) first
        ∙ ap (λ (os : List (Option Entry)). find (is_answer_of n) (front ++ f ∷ e ∷ back) ∷ os) (same_answers numbers)

-- two neighbours of which at most one is of the call
entries_of-swap : (front back : List Entry) (e f : Entry) (at : At) →
    (same_call (at_of e) at ≡ true → same_call (at_of f) at ≡ true → ⊥) →
    entries_of at (front ++ e ∷ f ∷ back) ≡ entries_of at (front ++ f ∷ e ∷ back)
entries_of-swap front back e f at one =
    let mine : Entry → Bool = λ entry. same_call (at_of entry) at in
    filter-append mine front (e ∷ f ∷ back)
    ∙ ap (λ (rest : List Entry). entries_of at front ++ rest)
    (neighbours (same_call (at_of e) at) (same_call (at_of f) at) (entries_of at back) one)
    ∙ sym (filter-append mine front (f ∷ e ∷ back))
  where
    neighbours : (first second : Bool) (rest : List Entry) → (first ≡ true → second ≡ true → ⊥) →
        cond first (e ∷ cond second (f ∷ rest) rest) (cond second (f ∷ rest) rest)
        ≡ cond second (f ∷ cond first (e ∷ rest) rest) (cond first (e ∷ rest) rest)
    neighbours true true rest one = absurd (one refl refl)
    neighbours true false rest one = refl
    neighbours false true rest one = refl
    neighbours false false rest one = refl

-- two neighbours of the call among its entries
two_of_call : (front back : List Entry) (e f : Entry) (at : At) → same_call (at_of e) at ≡ true → same_call (at_of f) at ≡ true →
    entries_of at (front ++ e ∷ f ∷ back) ≡ entries_of at front ++ e ∷ f ∷ entries_of at back
two_of_call front back e f at e_is f_is =
    let mine : Entry → Bool = λ entry. same_call (at_of entry) at in
    filter-append mine front (e ∷ f ∷ back)
    ∙ ap (λ (rest : List Entry). entries_of at front ++ rest)
    (cond-true (same_call (at_of e) at) (e ∷ entries_of at (f ∷ back)) (entries_of at (f ∷ back)) e_is
    ∙ ap (λ (rest : List Entry). e ∷ rest) (cond-true (same_call (at_of f) at) (f ∷ entries_of at back) (entries_of at back) f_is))

pub pieces_come_in_any_order : PiecesComeInAnyOrder
pieces_come_in_any_order script front back e f i j at call called by_pieces is_e is_f differ =
    ⊎_elim
    (λ e_is. ⊎_elim (λ f_is. both e_is f_is) (λ f_not. apart (λ e_mine f_mine. false≢true (sym f_not ∙ f_mine))) (cases_Bool (same_call (at_of f) at)))
    (λ e_not. apart (λ e_mine f_mine. false≢true (sym e_not ∙ e_mine)))
    (cases_Bool (same_call (at_of e) at))
  where
    apart : (same_call (at_of e) at ≡ true → same_call (at_of f) at ≡ true → ⊥) →
        reply_text script (front ++ e ∷ f ∷ back) at ≡ reply_text script (front ++ f ∷ e ∷ back) at
    apart one =
        same_reply script (front ++ e ∷ f ∷ back) (front ++ f ∷ e ∷ back) at (entries_of-swap front back e f at one)

    both : same_call (at_of e) at ≡ true → same_call (at_of f) at ≡ true →
        reply_text script (front ++ e ∷ f ∷ back) at ≡ reply_text script (front ++ f ∷ e ∷ back) at
    both e_is f_is =
        reply_of_call script (front ++ e ∷ f ∷ back) at call called
        ∙ ap (call_text call) (two_of_call front back e f at e_is f_is)
        ∙ call_text-swap call (entries_of at front) (entries_of at back) e f i j by_pieces is_e is_f differ
        ∙ ap (call_text call) (sym (two_of_call front back f e at f_is e_is))
        ∙ sym (reply_of_call script (front ++ f ∷ e ∷ back) at call called)

-- ---- what reads and writes tell

-- the reply of a call that no entry ends alone
by_pieces_text : (script : Script) (journal : List Entry) (at : At) (call : Call) → call_at script at ≡ Some call →
    end_of call (entries_of at journal) ≡ None → reply_text script journal at ≡ pieces_text call (answers_of call (entries_of at journal))
by_pieces_text script journal at call called none =
    reply_of_call script journal at call called
    ∙ ap (λ (o : Option Entry). ended_text call o (answers_of call (entries_of at journal))) none

pub reads_tell_first_pieces : ReadsTellFirstPieces
reads_tell_first_pieces script journal at fd off len called none = record {
  bytes = gathered_bytes (parts_of (pieces off len) (answers_of (Read fd off len) (entries_of at journal)));
  reply_is = by_pieces_text script journal at (Read fd off len) called none;
  first = first_bytes (parts_of (pieces off len) (answers_of (Read fd off len) (entries_of at journal)));
}

first_refusal : (answers : List (Option Entry)) (number : ℕ) (reason : Reason) → IsFirstRefusal answers number reason →
    first_reason answers ≡ Some reason
first_refusal [] number reason is = absurd (none-some is.answer is.stands)
first_refusal (a ∷ answers) zero reason is =
    ap (λ (r : Option Reason). option_or r (first_reason answers)) (ap piece_reason (same_Some a is.answer is.stands) ∙ is.refused)
first_refusal (a ∷ answers) (suc number) reason is =
    ap (λ (r : Option Reason). option_or r (first_reason answers)) (is.earlier 0 a (omega arith) refl)
    ∙ first_refusal answers number reason
    (record { answer = is.answer; stands = is.stands; refused = is.refused; earlier = λ k other below. is.earlier (suc k) other (omega arith) })

pub writes_tell_first_refusal : WritesTellFirstRefusal
writes_tell_first_refusal script journal at fd off bytes number reason called none is =
    by_pieces_text script journal at (Write fd off bytes) called none
    ∙ ap (λ (r : Option Reason). option_map_or reason_text r (wrote_text bytes))
    (first_refusal (answers_of (Write fd off bytes) (entries_of at journal)) number reason is)
