-- The commands of a call after each turn of its device engine.
use Rattle.std.proofs.Common.{◌≡◌, ℕ, ◌+◌, ◌<◌, ◌≤◌, Bool, true, false, ◌||◌, List, [], ◌∷◌, ◌++◌, length, Option, None, Some, refl, sym, ap, ◌∙◌, subst, arith, ⊎_elim}
use Rattle.std.specs.Prelude.{nat_eq, All, count_by}
use Rattle.std.specs.List.{list_any}
use Rattle.std.proofs.lemmas.Bool.{or_cases, or_left, or_right}
use Rattle.std.proofs.lemmas.List.{map-append}
use Rattle.std.proofs.lemmas.List.Elements.{All-append, All-cons, All-head, All-nil, All-push, All-tail, All-weaker}
use Rattle.std.proofs.lemmas.List.Folds.{list_any-append}
use Rattle.std.proofs.lemmas.Option.{none-some, same_Some}
use Rattle.bd_base.proofs.Counts.{count_by-push, one_if, one_if-same}
use Rattle.bd_entry.specs.declared.entry.Entry.{Entry}
use Rattle.bd_entry.specs.Calls.{Place, has_missed, is_answer_of, is_answered, is_miss_of, pieces_of_call}
use Rattle.bd_turns.proofs.CommandSteps.{All-unmap, all_parts, completed_pieces, count-cons, count_outstanding, each_part, none-count}
use Rattle.bd_turns.proofs.DoneTurns.{grown}
use Rattle.bd_turns.proofs.KeptCommands.{TellsNone, TellsOf}
use Rattle.bd_turns.specs.Sound.{AreCommands, has_told, is_told}
use Rattle.bd_turns.specs.State.{Completed, InHand, Retiring, Completing, Phase, Progress, outstanding, pieces_in_hand}

-- a piece in a hand
abbrev pub hand_of : ℕ → Phase → InHand
hand_of number phase = record { piece = number; phase = phase }

-- ---- the oldest command is taken

abbrev pub taken : Progress → ℕ → List ℕ → Phase → Progress
taken progress number rest phase = record progress { submitted = rest; hand = Some (hand_of number phase) }

module _ (q : Place) (progress : Progress) (number : ℕ) (rest : List ℕ) (phase : Phase) (free : progress.hand ≡ None)
    (submitted : progress.submitted ≡ number ∷ rest) where
  pub taken_all : (P : ℕ → Type 0) → All P (outstanding progress) → All P (outstanding (taken progress number rest phase))
  taken_all P all =
      let each = each_part P progress all in
      let list : All P (number ∷ rest) = subst (All P) submitted each.submitted in
      all_parts P (taken progress number rest phase)
      (record {
        completed = each.completed;
        in_hand = All-cons P number [] (All-head P number rest list) (All-nil P);
        submitted = All-tail P number rest list;
      })

  pub taken_commands : has_told phase ≡ false → AreCommands q progress → AreCommands q (taken progress number rest phase)
  taken_commands silent are =
      let list : All (TellsNone q) (number ∷ rest) = subst (All (TellsNone q)) submitted are.submitted in
      record {
        differ = differ are;
        pieces = taken_all (λ piece. piece < length (pieces_of_call q.call)) are.pieces;
        submitted = All-tail (TellsNone q) number rest list;
        in_hand = λ hand is.
            subst (λ (h : InHand). is_told q h.piece ≡ has_told h.phase) (same_Some (hand_of number phase) hand is)
            (All-head (TellsNone q) number rest list ∙ sym silent);
        completed = are.completed;
      }
    where
      differ : AreCommands q progress → (piece : ℕ) → count_by (nat_eq piece) (outstanding (taken progress number rest phase)) ≤ 1
      differ are piece =
          let test : ℕ → Bool = nat_eq piece in
          let none : count_by test (pieces_in_hand progress.hand) ≡ 0 =
          ap (λ (h : Option InHand). count_by test (pieces_in_hand h)) free in
          let list : count_by test progress.submitted ≡ one_if (test number) + count_by test rest =
          ap (count_by test) submitted ∙ count-cons test number rest in
          let one : count_by test (number ∷ []) ≡ one_if (test number) + 0 = count-cons test number [] in
          omega (
            count_outstanding test progress,
            count_outstanding test (taken progress number rest phase),
            none,
            list,
            one,
            are.differ piece,
            arith,
          )

-- ---- the engine goes on with the command in its hand

abbrev pub with_phase : Progress → ℕ → Phase → Progress
with_phase progress number phase = record progress { hand = Some (hand_of number phase) }

module _ (q : Place) (progress : Progress) (number : ℕ) (phase next : Phase) (in_hand : progress.hand ≡ Some (hand_of number phase)) where
  -- the pieces outstanding stay the same
  same_pieces : pieces_in_hand progress.hand ≡ number ∷ []
  same_pieces = ap pieces_in_hand in_hand

  pub same_outstanding : outstanding (with_phase progress number next) ≡ outstanding progress
  same_outstanding =
      ap (λ (pieces : List ℕ). completed_pieces progress.completed ++ pieces ++ progress.submitted) (sym same_pieces)

  pub phase_all : (P : ℕ → Type 0) → All P (outstanding progress) → All P (outstanding (with_phase progress number next))
  phase_all P all = subst (All P) (sym same_outstanding) all

  pub phase_commands : has_told next ≡ has_told phase → AreCommands q progress → AreCommands q (with_phase progress number next)
  phase_commands same are = record {
    differ = λ piece. subst (λ (pieces : List ℕ). count_by (nat_eq piece) pieces ≤ 1) (sym same_outstanding) (are.differ piece);
    pieces = phase_all (λ piece. piece < length (pieces_of_call q.call)) are.pieces;
    submitted = are.submitted;
    in_hand = λ hand is.
        subst (λ (h : InHand). is_told q h.piece ≡ has_told h.phase) (same_Some (hand_of number next) hand is)
        (are.in_hand (hand_of number phase) in_hand ∙ sym same);
    completed = are.completed;
  }

-- ---- the command in the hand is given back

abbrev pub given_back : Place → Progress → ℕ → Progress
given_back q progress number =
    record progress {
      hand = None;
      completed = progress.completed ++ (record { piece = number; missed = has_missed number q.before }) ∷ [];
    }

module _ (q : Place) (progress : Progress) (number : ℕ) (in_hand : progress.hand ≡ Some (hand_of number Completing)) where
  abbrev done : Completed
  done = record { piece = number; missed = has_missed number q.before }

  more_pieces : completed_pieces (progress.completed ++ done ∷ []) ≡ completed_pieces progress.completed ++ number ∷ []
  more_pieces = map-append (λ (c : Completed). c.piece) progress.completed (done ∷ [])

  pub given_all : (P : ℕ → Type 0) → All P (outstanding progress) → All P (outstanding (given_back q progress number))
  given_all P all =
      let each = each_part P progress all in
      let one : All P (number ∷ []) = subst (λ (h : Option InHand). All P (pieces_in_hand h)) in_hand each.in_hand in
      all_parts P (given_back q progress number)
      (record {
        completed =
            subst (All P) (sym more_pieces)
            (All-append P (completed_pieces progress.completed) (number ∷ []) each.completed one);
        in_hand = All-nil P;
        submitted = each.submitted;
      })

  pub given_commands : AreCommands q progress → AreCommands q (given_back q progress number)
  given_commands are = record {
    differ = differ;
    pieces = given_all (λ piece. piece < length (pieces_of_call q.call)) are.pieces;
    submitted = are.submitted;
    in_hand = λ hand is. absurd (none-some hand is);
    completed = All-push (TellsOf q) progress.completed done are.completed (are.in_hand (hand_of number Completing) in_hand, refl);
  }
    where
      differ : (piece : ℕ) → count_by (nat_eq piece) (outstanding (given_back q progress number)) ≤ 1
      differ piece =
          let test : ℕ → Bool = nat_eq piece in
          let was : count_by test (pieces_in_hand progress.hand) ≡ one_if (test number) + 0 =
          ap (λ (h : Option InHand). count_by test (pieces_in_hand h)) in_hand ∙ count-cons test number [] in
          let more : count_by test (completed_pieces (progress.completed ++ done ∷ []))
          ≡ count_by test (completed_pieces progress.completed) + one_if (test number) =
          ap (count_by test) more_pieces ∙ count_by-push piece (completed_pieces progress.completed) number in
          omega
          (count_outstanding test progress, count_outstanding test (given_back q progress number), was, more, are.differ piece, arith)

-- ---- the engine says what became of the command in its hand

-- the entry tells of this piece alone
pub record TellsAlone (number : ℕ) (e : Entry) : Type 0 where
  pub tells : (is_answer_of number e || is_miss_of number e) ≡ true
  pub alone : (piece : ℕ) → nat_eq number piece ≡ false → (is_answer_of piece e ≡ false) × (is_miss_of piece e ≡ false)

-- where it tells of a piece, the journal has told of it
told_now : (q : Place) (number : ℕ) (e : Entry) → (is_answer_of number e || is_miss_of number e) ≡ true → is_told (grown q (Some e)) number ≡ true
told_now q number e tells =
    let answered = list_any-append (is_answer_of number) q.before (e ∷ []) in
    let missed = list_any-append (is_miss_of number) q.before (e ∷ []) in
    ⊎_elim {C = is_told (grown q (Some e)) number ≡ true}
    (λ answer.
    or_left (is_answered number (q.before ++ e ∷ [])) (has_missed number (q.before ++ e ∷ []))
    (answered ∙ or_right (is_answered number q.before) (list_any (is_answer_of number) (e ∷ [])) (or_left (is_answer_of number e) false answer)))
    (λ miss.
    or_right (is_answered number (q.before ++ e ∷ [])) (has_missed number (q.before ++ e ∷ []))
    (missed ∙ or_right (has_missed number q.before) (list_any (is_miss_of number) (e ∷ [])) (or_left (is_miss_of number e) false miss)))
    (or_cases (is_answer_of number e) (is_miss_of number e) tells)

or_false : (b : Bool) → (b || false) ≡ b
or_false true = refl
or_false false = refl

-- what it does not tell of is told as before
module _ (q : Place) (piece : ℕ) (e : Entry) (answer : is_answer_of piece e ≡ false) (miss : is_miss_of piece e ≡ false) where
  answered_same : is_answered piece (q.before ++ e ∷ []) ≡ is_answered piece q.before
  answered_same =
      list_any-append (is_answer_of piece) q.before (e ∷ [])
      ∙ ap (λ (b : Bool). is_answered piece q.before || (b || false)) answer ∙ or_false (is_answered piece q.before)

  pub missed_same : has_missed piece (q.before ++ e ∷ []) ≡ has_missed piece q.before
  missed_same =
      list_any-append (is_miss_of piece) q.before (e ∷ [])
      ∙ ap (λ (b : Bool). has_missed piece q.before || (b || false)) miss ∙ or_false (has_missed piece q.before)

  pub told_same : is_told (grown q (Some e)) piece ≡ is_told q piece
  told_same =
      ap (λ (b : Bool). b || has_missed piece (q.before ++ e ∷ [])) answered_same
      ∙ ap (λ (b : Bool). is_answered piece q.before || b) missed_same

module _ (q : Place) (progress : Progress) (number : ℕ) (phase : Phase) (e : Entry) (in_hand : progress.hand ≡ Some (hand_of number phase))
    (tells : TellsAlone number e) (are : AreCommands q progress) where
  -- no other command is of the piece in the hand
  no_others : (count_by (nat_eq number) (completed_pieces progress.completed) ≡ 0) × (count_by (nat_eq number) progress.submitted ≡ 0)
  no_others =
      let test : ℕ → Bool = nat_eq number in
      let hand : count_by test (pieces_in_hand progress.hand) ≡ one_if (test number) + 0 =
      ap (λ (h : Option InHand). count_by test (pieces_in_hand h)) in_hand ∙ count-cons test number [] in
      let one = one_if-same number number refl in
      let all = count_outstanding test progress in
      (omega (hand, one, all, are.differ number, arith), omega (hand, one, all, are.differ number, arith))

  other_submitted : All (λ piece. nat_eq number piece ≡ false) progress.submitted
  other_submitted = none-count (nat_eq number) progress.submitted no_others.1

  other_completed : All (λ (c : Completed). nat_eq number c.piece ≡ false) progress.completed
  other_completed =
      All-unmap (λ piece. nat_eq number piece ≡ false) (λ (c : Completed). c.piece) progress.completed
      (none-count (nat_eq number) (completed_pieces progress.completed) no_others.0)

  -- both hold of each element
  both : {X : Type 0} (P Q : X → Type 0) (xs : List X) → All P xs → All Q xs → All (λ x. P x × Q x) xs
  both P Q xs first second k d lt = (first k d lt, second k d lt)

  pub told_commands : AreCommands (grown q (Some e)) (with_phase progress number Retiring)
  told_commands =
      let after = grown q (Some e) in
      let same = same_outstanding q progress number phase Retiring in_hand in
      record {
        differ = λ piece. subst (λ (pieces : List ℕ). count_by (nat_eq piece) pieces ≤ 1) (sym same) (are.differ piece);
        pieces = subst (All (λ piece. piece < length (pieces_of_call q.call))) (sym same) are.pieces;
        submitted =
            All-weaker (λ piece. (is_told q piece ≡ false) × (nat_eq number piece ≡ false)) (TellsNone after)
            (λ piece facts.
            let other = tells.alone piece facts.1 in
            told_same q piece e other.0 other.1 ∙ facts.0)
            progress.submitted (both (TellsNone q) (λ piece. nat_eq number piece ≡ false) progress.submitted are.submitted other_submitted);
        in_hand = λ hand is.
            subst (λ (h : InHand). is_told after h.piece ≡ has_told h.phase) (same_Some (hand_of number Retiring) hand is)
            (told_now q number e tells.tells);
        completed =
            All-weaker (λ (c : Completed). TellsOf q c × (nat_eq number c.piece ≡ false)) (TellsOf after)
            (λ c facts.
            let other = tells.alone c.piece facts.1 in
            (told_same q c.piece e other.0 other.1 ∙ facts.0.0, facts.0.1 ∙ sym (missed_same q c.piece e other.0 other.1)))
            progress.completed (both (TellsOf q) (λ (c : Completed). nat_eq number c.piece ≡ false) progress.completed are.completed other_completed);
      }
