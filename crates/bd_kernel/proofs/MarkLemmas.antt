-- The marks of a running call stay those of its entries as one more is noted.
use Rattle.std.proofs.Common.{◌≡◌, ℕ, ◌+◌, ◌<◌, Bool, true, false, ◌||◌, ◌&&◌, Option, None, Some, List, [], ◌∷◌, ◌++◌, length, refl, sym, ap, ◌∙◌, arith, set, inl, inr}
use Rattle.std.specs.Prelude.{nat_eq, nat_lt}
use Rattle.std.specs.List.{list_any}
use Rattle.std.specs.Option.{option_or}
use Rattle.std.proofs.lemmas.Bool.{cases_eq}
use Rattle.std.proofs.lemmas.Bool.Decides.{nat_tests}
use Rattle.std.proofs.lemmas.List.{get_or-set_same, get_or-set_other, length_push}
use Rattle.std.proofs.lemmas.List.Folds.{list_any-append}
use Rattle.bd_base.specs.declared.limits.TheConstants.{DESCRIPTORS, PARTS}
use Rattle.bd_entry.specs.declared.entry.Entry.{Entry}
use Rattle.bd_entry.specs.declared.entry.Entry.TheVariants.{Access, Attached, Cleared, Closed, Created, Detached, Extended, Mapped, Missed, Opened, Refused, Released, SizeRead, Sized, Unlinked}
use Rattle.bd_entry.specs.Calls.{has_cleared, has_missed, is_answer_of, is_answered, is_clear_of, is_miss_of, opened_fd}
use Rattle.bd_kernel.specs.Marks.{AreMarksOf, HasKeyOf, HasPieceOf, HasRoom, IsKey, Marks, is_marked, noted, number_of_key}
use Rattle.bd_kernel.specs.Turns.{ArePieceMarksOf}

or-false : (b : Bool) → (b || false) ≡ b
or-false true = refl
or-false false = refl

or-true : (b : Bool) → (b || true) ≡ true
or-true true = refl
or-true false = refl

-- a test of one entry more
any-push : (p : Entry → Bool) (entries : List Entry) (e : Entry) → list_any p (entries ++ e ∷ []) ≡ (list_any p entries || p e)
any-push p entries e = list_any-append p entries (e ∷ []) ∙ ap (λ (b : Bool). list_any p entries || b) (or-false (p e))

-- an entry that does not pass changes nothing
any-push_other : (p : Entry → Bool) (entries : List Entry) (e : Entry) → p e ≡ false → list_any p (entries ++ e ∷ []) ≡ list_any p entries
any-push_other p entries e fails =
    any-push p entries e ∙ ap (λ (b : Bool). list_any p entries || b) fails ∙ or-false (list_any p entries)

-- a mark more
pub marked-set : (marks : List Bool) (i q : ℕ) → i < length marks → is_marked (set marks i true) q ≡ (is_marked marks q || nat_eq i q)
marked-set marks i q within =
    elim (cases_eq q i) [
      | inl same ↦
          let is : nat_eq i q ≡ true = grind (arith, nat_tests) in
          ap (λ (k : ℕ). is_marked (set marks i true) k) same ∙ get_or-set_same marks i true false within
          ∙ sym (ap (λ (b : Bool). is_marked marks q || b) is ∙ or-true (is_marked marks q))
      | inr other ↦
          let is : nat_eq i q ≡ false = grind (arith, nat_tests) in
          get_or-set_other marks i q true false other
          ∙ sym (ap (λ (b : Bool). is_marked marks q || b) is ∙ or-false (is_marked marks q))
    ]

-- the first Opened stays the first
opened-push : (entries : List Entry) (e : Entry) → opened_fd (entries ++ e ∷ []) ≡ option_or (opened_fd entries) (opened_fd (e ∷ []))
opened-push [] e = refl
opened-push (Opened at file fd mode how ∷ entries) e = refl
opened-push (Created at file name perms ∷ entries) e = opened-push entries e
opened-push (Attached at fd part ∷ entries) e = opened-push entries e
opened-push (Mapped at fd count ∷ entries) e = opened-push entries e
opened-push (Cleared at owner fd part ∷ entries) e = opened-push entries e
opened-push (Detached at owner fd part ∷ entries) e = opened-push entries e
opened-push (Access at piece fd file index block range wrote way bytes ∷ entries) e = opened-push entries e
opened-push (Missed at piece found ∷ entries) e = opened-push entries e
opened-push (Extended at file to block ∷ entries) e = opened-push entries e
opened-push (Released at file index block ∷ entries) e = opened-push entries e
opened-push (Sized at fd size ∷ entries) e = opened-push entries e
opened-push (SizeRead at fd size ∷ entries) e = opened-push entries e
opened-push (Closed at fd ∷ entries) e = opened-push entries e
opened-push (Unlinked at file ∷ entries) e = opened-push entries e
opened-push (Refused at piece reason ∷ entries) e = opened-push entries e

option_or-none : {X : Type 0} (o : Option X) → option_or o None ≡ o
option_or-none None = refl
option_or-none (Some x) = refl

has_some : (entries : List Entry) (e : Entry) → true ≡ nat_lt 0 (length (entries ++ e ∷ []))
has_some entries e = let more : length (entries ++ e ∷ []) ≡ length entries + 1 = length_push entries e in grind (arith, nat_tests)

-- two keys have one number exactly where they are one
same_number : (p f k q g l : ℕ) → f < DESCRIPTORS → g < DESCRIPTORS → k < PARTS → l < PARTS →
    nat_eq (number_of_key p f k) (number_of_key q g l) ≡ (nat_eq p q && nat_eq f g && nat_eq k l)
same_number p f k q g l f_in g_in k_in l_in =
    elim (cases_eq p q) [
      | inl same_p ↦
          elim (cases_eq f g) [
            | inl same_f ↦
                elim (cases_eq k l) [
                  | inl same_k ↦ grind (arith, nat_tests)
                  | inr other ↦ grind (arith, nat_tests)
                ]
            | inr other ↦ grind (arith, nat_tests)
          ]
      | inr other ↦ grind (arith, nat_tests)
    ]

module _ (m : Marks) (entries : List Entry) (e : Entry) (marks : AreMarksOf m entries) where
  same_opened : opened_fd (e ∷ []) ≡ None → m.opened ≡ opened_fd (entries ++ e ∷ [])
  same_opened none =
      marks.opened ∙ sym (opened-push entries e ∙ ap (option_or (opened_fd entries)) none ∙ option_or-none (opened_fd entries))

  same_answered : ((q : ℕ) → is_answer_of q e ≡ false) → (q : ℕ) → is_marked m.answered q ≡ is_answered q (entries ++ e ∷ [])
  same_answered none q = marks.answered q ∙ sym (any-push_other (is_answer_of q) entries e (none q))

  same_missed : ((q : ℕ) → is_miss_of q e ≡ false) → (q : ℕ) → is_marked m.missed q ≡ has_missed q (entries ++ e ∷ [])
  same_missed none q = marks.missed q ∙ sym (any-push_other (is_miss_of q) entries e (none q))

  same_cleared : ((p f k : ℕ) → is_clear_of p f k e ≡ false) → (p f k : ℕ) → IsKey p f k →
      is_marked m.cleared (number_of_key p f k) ≡ has_cleared p f k (entries ++ e ∷ [])
  same_cleared none p f k key = marks.cleared p f k key ∙ sym (any-push_other (is_clear_of p f k) entries e (none p f k))

  -- an entry that the rules do not ask about
  quiet : opened_fd (e ∷ []) ≡ None → ((q : ℕ) → is_answer_of q e ≡ false) → ((q : ℕ) → is_miss_of q e ≡ false) →
      ((p f k : ℕ) → is_clear_of p f k e ≡ false) → AreMarksOf (record m { begun = true }) (entries ++ e ∷ [])
  quiet opens answers misses clears = record {
    begun = has_some entries e;
    opened = same_opened opens;
    answered = same_answered answers;
    missed = same_missed misses;
    cleared = same_cleared clears;
  }

  -- one that answers a piece
  answering : (piece : ℕ) → piece < length m.answered → opened_fd (e ∷ []) ≡ None → ((q : ℕ) → is_answer_of q e ≡ nat_eq piece q) →
      ((q : ℕ) → is_miss_of q e ≡ false) → ((p f k : ℕ) → is_clear_of p f k e ≡ false) →
      AreMarksOf (record m { begun = true; answered = set m.answered piece true }) (entries ++ e ∷ [])
  answering piece within opens answers misses clears = record {
    begun = has_some entries e;
    opened = same_opened opens;
    answered = λ q.
        marked-set m.answered piece q within
        ∙ ap (λ (b : Bool). b || nat_eq piece q) (marks.answered q)
        ∙ sym (any-push (is_answer_of q) entries e ∙ ap (λ (b : Bool). is_answered q entries || b) (answers q));
    missed = same_missed misses;
    cleared = same_cleared clears;
  }

-- what is noted of an entry are its marks
pub noted-marks : (m : Marks) (entries : List Entry) (e : Entry) → HasRoom m → HasPieceOf e → HasKeyOf e → AreMarksOf m entries →
    AreMarksOf (noted e m) (entries ++ e ∷ [])
noted-marks m entries (Opened at file fd mode how) room piece key marks =
    let e : Entry = Opened at file fd mode how in
    record {
      begun = has_some entries e;
      opened = ap (λ (o : Option ℕ). option_or o (Some fd)) marks.opened ∙ sym (opened-push entries e);
      answered = same_answered m entries e marks (λ q. refl);
      missed = same_missed m entries e marks (λ q. refl);
      cleared = same_cleared m entries e marks (λ p f k. refl);
    }
noted-marks m entries (Created at file name perms) room piece key marks =
    quiet m entries (Created at file name perms) marks refl (λ q. refl) (λ q. refl) (λ p f k. refl)
noted-marks m entries (Attached at fd part) room piece key marks =
    quiet m entries (Attached at fd part) marks refl (λ q. refl) (λ q. refl) (λ p f k. refl)
noted-marks m entries (Mapped at fd count) room piece key marks =
    quiet m entries (Mapped at fd count) marks refl (λ q. refl) (λ q. refl) (λ p f k. refl)
noted-marks m entries (Cleared at owner fd part) room piece key marks =
    let e : Entry = Cleared at owner fd part in
    record {
      begun = has_some entries e;
      opened = same_opened m entries e marks refl;
      answered = same_answered m entries e marks (λ q. refl);
      missed = same_missed m entries e marks (λ q. refl);
      cleared = λ p f k is.
          let within : number_of_key owner fd part < length m.cleared = omega (arith, room.cleared, key.process_there, key.fd_there, key.part_there) in
          let same = same_number owner fd part p f k key.fd_there is.fd_there key.part_there is.part_there in
          marked-set m.cleared (number_of_key owner fd part) (number_of_key p f k) within
          ∙ ap (λ (b : Bool). is_marked m.cleared (number_of_key p f k) || b) same
          ∙ ap (λ (b : Bool). b || (nat_eq owner p && nat_eq fd f && nat_eq part k)) (marks.cleared p f k is)
          ∙ sym (any-push (is_clear_of p f k) entries e);
    }
noted-marks m entries (Detached at owner fd part) room piece key marks =
    quiet m entries (Detached at owner fd part) marks refl (λ q. refl) (λ q. refl) (λ p f k. refl)
noted-marks m entries (Access at piece fd file index block range wrote way bytes) room within key marks =
    answering m entries (Access at piece fd file index block range wrote way bytes) marks piece (omega (arith, room.answered, within)) refl
    (λ q. refl) (λ q. refl) (λ p f k. refl)
noted-marks m entries (Missed at piece found) room within key marks =
    let e : Entry = Missed at piece found in
    record {
      begun = has_some entries e;
      opened = same_opened m entries e marks refl;
      answered = same_answered m entries e marks (λ q. refl);
      missed = λ q.
          marked-set m.missed piece q (omega (arith, room.missed, within))
          ∙ ap (λ (b : Bool). b || nat_eq piece q) (marks.missed q)
          ∙ sym (any-push (is_miss_of q) entries e);
      cleared = same_cleared m entries e marks (λ p f k. refl);
    }
noted-marks m entries (Extended at file to block) room piece key marks =
    quiet m entries (Extended at file to block) marks refl (λ q. refl) (λ q. refl) (λ p f k. refl)
noted-marks m entries (Released at file index block) room piece key marks =
    quiet m entries (Released at file index block) marks refl (λ q. refl) (λ q. refl) (λ p f k. refl)
noted-marks m entries (Sized at fd size) room piece key marks =
    quiet m entries (Sized at fd size) marks refl (λ q. refl) (λ q. refl) (λ p f k. refl)
noted-marks m entries (SizeRead at fd size) room piece key marks =
    quiet m entries (SizeRead at fd size) marks refl (λ q. refl) (λ q. refl) (λ p f k. refl)
noted-marks m entries (Closed at fd) room piece key marks =
    quiet m entries (Closed at fd) marks refl (λ q. refl) (λ q. refl) (λ p f k. refl)
noted-marks m entries (Unlinked at file) room piece key marks =
    quiet m entries (Unlinked at file) marks refl (λ q. refl) (λ q. refl) (λ p f k. refl)
noted-marks m entries (Refused at None reason) room piece key marks =
    quiet m entries (Refused at None reason) marks refl (λ q. refl) (λ q. refl) (λ p f k. refl)
noted-marks m entries (Refused at (Some piece) reason) room within key marks =
    answering m entries (Refused at (Some piece) reason) marks piece (omega (arith, room.answered, within)) refl (λ q. refl) (λ q. refl)
    (λ p f k. refl)

-- the marks of pieces are those of the entries, also where some commands are outstanding
pub pieces_marked : (m : Marks) (outstanding : List ℕ) (entries : List Entry) → AreMarksOf m entries →
    ArePieceMarksOf m outstanding entries
pieces_marked m outstanding entries marks =
    record { answered = λ piece other. marks.answered piece; missed = λ piece other. marks.missed piece }
