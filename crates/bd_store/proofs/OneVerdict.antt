-- A journal has one verdict.
use Rattle.std.proofs.Common.{◌≡◌, ℕ, ◌<◌, ◌≤◌, ◌↔◌, false, List, [], ◌∷◌, ◌++◌, Option, None, Some, length, take, drop, zero, suc, refl, sym, ap, ◌∙◌, subst, arith, inl, inr}
use Rattle.std.specs.Prelude.{IfSome, slice_get, slice_index}
use Rattle.std.specs.Option.{option_map_or}
use Rattle.std.proofs.lemmas.Bool.{both_ways, cases_order}
use Rattle.std.proofs.lemmas.Option.{none-some, same_Some, slice_get_cases}
use Rattle.bd_base.specs.declared.journal.At.{At}
use Rattle.bd_base.specs.declared.script.Call.{Call}
use Rattle.bd_base.specs.declared.script.Process.{Process}
use Rattle.bd_base.specs.declared.script.Script.{Script}
use Rattle.bd_base.specs.declared.volume.Volume.{Volume}
use Rattle.bd_entry.specs.declared.entry.Entry.{Entry}
use Rattle.bd_entry.specs.Calls.{at_of, call_at, calls_of, is_finished}
use Rattle.bd_entry.specs.History.{InOrderSoFar, Legal as IsLegal}
use Rattle.bd_entry.specs.Rules.{BreaksRule, EntryRule, FitsStore, KeepsRule, place_in}
use Rattle.bd_entry.specs.Store.{Store, start_store}
use Rattle.bd_entry.proofs.CallOrder.{numbered}
use Rattle.bd_entry.proofs.JournalLaws.{in_order_in_parts, legal_in_parts, one_store}
use Rattle.bd_entry.proofs.RuleLaws.{one_least_rule}
use Rattle.bd_store.specs.declared.check.Verdict.{Verdict}
use Rattle.bd_store.specs.declared.check.Verdict.TheVariants.{Legal, NotLegal, Unfinished}
use Rattle.bd_store.specs.Kept.{Kept}
use Rattle.bd_store.specs.Verdicts.{BreaksFirst, IsFirstLess, IsLegalInOrder, LacksEndOf}
use Rattle.bd_store.proofs.JournalWork.{IsFollowed, led_to}

-- ---- lists in two parts

-- of two ways to part a list, the longer front begins with the shorter one and its next element
split_less : {X : Type 0} (a : List X) (x : X) (xs : List X) (b : List X) (y : X) (ys : List X) → a ++ x ∷ xs ≡ b ++ y ∷ ys → length a < length b →
    (middle : List X) × (b ≡ a ++ x ∷ middle)
split_less a x xs [] y ys same less = absurd (omega arith)
split_less [] x xs (z ∷ b) y ys same less =
    let head : x ≡ z = cc in
    (b, ap (λ h. h ∷ b) (sym head))
split_less (w ∷ a) x xs (z ∷ b) y ys same less =
    let head : w ≡ z = cc in
    let tail : a ++ x ∷ xs ≡ b ++ y ∷ ys = cc in
    let rest = split_less a x xs b y ys tail (omega arith) in
    (rest.0, ap (λ h. h ∷ b) (sym head) ∙ ap (λ t. w ∷ t) rest.1)

-- two fronts of one length are one, and so are the elements after them
split_same : {X : Type 0} (a : List X) (x : X) (xs : List X) (b : List X) (y : X) (ys : List X) → a ++ x ∷ xs ≡ b ++ y ∷ ys → length a ≡ length b →
    (a ≡ b) × (x ≡ y)
split_same [] x xs [] y ys same equal = (refl, cc)
split_same [] x xs (z ∷ b) y ys same equal = absurd (omega arith)
split_same (w ∷ a) x xs [] y ys same equal = absurd (omega arith)
split_same (w ∷ a) x xs (z ∷ b) y ys same equal =
    let head : w ≡ z = cc in
    let tail : a ++ x ∷ xs ≡ b ++ y ∷ ys = cc in
    let rest = split_same a x xs b y ys tail (omega arith) in
    (ap (λ h. h ∷ a) head ∙ ap (λ t. z ∷ t) rest.0, rest.1)

-- a list is parted at one of its elements
split_at : {X : Type 0} (xs : List X) (n : ℕ) (x : X) → slice_get xs n ≡ Some x → (xs ≡ take n xs ++ x ∷ drop (suc n) xs) × (length (take n xs) ≡ n)
split_at [] n x is = absurd (none-some x is)
split_at (y ∷ xs) zero x is = (ap (λ h. h ∷ xs) (same_Some y x is), refl)
split_at (y ∷ xs) (suc n) x is =
    let rest = split_at xs n x is in
    (ap (λ t. y ∷ t) rest.0, ap suc rest.1)

-- ---- one verdict

-- what the verdict says holds of the journal
abbrev pub IsVerdict : Volume → Script → List Entry → Verdict → Type 0
IsVerdict v script journal Legal = IsLegalInOrder v script journal
IsVerdict v script journal (NotLegal entry rule) = BreaksFirst v script journal entry rule
IsVerdict v script journal (Unfinished process call) = LacksEndOf v script journal process call

module _ (v : Volume) (script : Script) where
  -- an entry of a legal journal in order keeps each rule at the store to which those before it lead
  kept_at : (before : List Entry) (e : Entry) (after : List Entry) (s t : Store) → IsLegal script (start_store v script) (before ++ e ∷ after) t →
      InOrderSoFar script (before ++ e ∷ after) → IsLegal script (start_store v script) before s → (rule : EntryRule) → KeepsRule script before s e rule
  kept_at before e after s t legal order led rule =
      let parts = (legal_in_parts script before (e ∷ after) (start_store v script) t).0 legal in
      let same : parts.0 ≡ s = one_store script (start_store v script) before parts.0 s parts.1 led in
      let fits = (in_order_in_parts script [] before (e ∷ after)).0 order in
      let holds : IfSome (call_at script (at_of e)) (λ call. FitsStore parts.0 (place_in parts.0 call (at_of e)) e rule) =
      subst (λ (o : Option Call). IfSome o (λ call. FitsStore parts.0 (place_in parts.0 call (at_of e)) e rule)) (sym parts.2.2) (parts.2.3.keeps rule) in (
        fits.1.0 rule,
        subst (λ (x : Store). IfSome (call_at script (at_of e)) (λ call. FitsStore x (place_in x call (at_of e)) e rule)) same holds,
      )

  -- no entry of it breaks one
  none_breaks : (journal : List Entry) (t : Store) (number rule : ℕ) → IsLegal script (start_store v script) journal t → InOrderSoFar script journal →
      BreaksFirst v script journal number rule → ⊥
  none_breaks journal t number rule legal order first =
      first.broken.broken
      (kept_at first.before first.entry first.after first.store t
      (subst (λ (all : List Entry). IsLegal script (start_store v script) all t) first.parts legal)
      (subst (InOrderSoFar script) first.parts order) first.legal first.broken.rule)

  -- the first one that breaks a rule is one
  not_later : (journal : List Entry) (m n rule other : ℕ) → BreaksFirst v script journal m rule → BreaksFirst v script journal n other → m < n → ⊥
  not_later journal m n rule other first second less =
      let shorter : length first.before < length second.before = omega (arith, first.number_is, second.number_is) in
      let rest = split_less first.before first.entry first.after second.before second.entry second.after (sym first.parts ∙ second.parts) shorter in
      first.broken.broken
      (kept_at first.before first.entry rest.0 first.store second.store
      (subst (λ (all : List Entry). IsLegal script (start_store v script) all second.store) rest.1 second.legal)
      (subst (InOrderSoFar script) rest.1 second.in_order) first.legal first.broken.rule)

  one_entry : (journal : List Entry) (m n rule other : ℕ) → BreaksFirst v script journal m rule → BreaksFirst v script journal n other → m ≡ n
  one_entry journal m n rule other first second =
      elim (cases_order m n) [
        | inl same ↦ same
        | inr order ↦
            elim order [
              | inl less ↦ absurd (not_later journal m n rule other first second less)
              | inr more ↦ absurd (not_later journal n m other rule second first more)
            ]
      ]

  one_rule : (journal : List Entry) (m n rule other : ℕ) → BreaksFirst v script journal m rule → BreaksFirst v script journal n other → rule ≡ other
  one_rule journal m n rule other first second =
      let equal : length first.before ≡ length second.before =
      first.number_is ∙ one_entry journal m n rule other first second ∙ sym second.number_is in
      let same = split_same first.before first.entry first.after second.before second.entry second.after (sym first.parts ∙ second.parts) equal in
      let led : IsLegal script (start_store v script) first.before second.store =
      subst (λ (before : List Entry). IsLegal script (start_store v script) before second.store) (sym same.0) second.legal in
      let stores : second.store ≡ first.store = one_store script (start_store v script) first.before second.store first.store led first.legal in
      let broken : BreaksRule script first.before first.store first.entry other =
      subst (λ (s : Store). BreaksRule script first.before s first.entry other) stores
      (subst (λ (e : Entry). BreaksRule script first.before second.store e other) (sym same.1)
      (subst (λ (before : List Entry). BreaksRule script before second.store second.entry other) (sym same.0) second.broken)) in
      one_least_rule script first.before first.store first.entry rule other first.broken broken

  -- the first unfinished call is one
  not_later_call : (journal : List Entry) (p q c d : ℕ) → LacksEndOf v script journal p c → LacksEndOf v script journal q d → p < q → ⊥
  not_later_call journal p q c d first second less =
      both_ways (is_finished script journal (numbered p c)) first.unfinished (second.earlier_processes p c less first.there)

  one_process : (journal : List Entry) (p q c d : ℕ) → LacksEndOf v script journal p c → LacksEndOf v script journal q d → p ≡ q
  one_process journal p q c d first second =
      elim (cases_order p q) [
        | inl same ↦ same
        | inr order ↦
            elim order [
              | inl less ↦ absurd (not_later_call journal p q c d first second less)
              | inr more ↦ absurd (not_later_call journal q p d c second first more)
            ]
      ]

  one_call : (journal : List Entry) (p c d : ℕ) → LacksEndOf v script journal p c → LacksEndOf v script journal p d → c ≡ d
  one_call journal p c d first second =
      elim (cases_order c d) [
        | inl same ↦ same
        | inr order ↦
            elim order [
              | inl less ↦ absurd (both_ways (is_finished script journal (numbered p c)) first.unfinished (second.earlier_calls c less))
              | inr more ↦ absurd (both_ways (is_finished script journal (numbered p d)) second.unfinished (first.earlier_calls d more))
            ]
      ]

  pub one_verdict : (journal : List Entry) (a b : Verdict) → IsVerdict v script journal a → IsVerdict v script journal b → a ≡ b
  one_verdict journal Legal Legal first second = refl
  one_verdict journal Legal (NotLegal n rule) first second =
      absurd (none_breaks journal first.store n rule first.legal first.in_order.so_far second)
  one_verdict journal Legal (Unfinished p c) first second =
      absurd (both_ways (is_finished script journal (numbered p c)) second.unfinished (first.in_order.finished p c second.there))
  one_verdict journal (NotLegal n rule) Legal first second =
      absurd (none_breaks journal second.store n rule second.legal second.in_order.so_far first)
  one_verdict journal (NotLegal m rule) (NotLegal n other) first second =
      ap (λ k. NotLegal k rule) (one_entry journal m n rule other first second) ∙ ap (NotLegal n) (one_rule journal m n rule other first second)
  one_verdict journal (NotLegal n rule) (Unfinished p c) first second =
      absurd (none_breaks journal second.store n rule second.legal second.in_order first)
  one_verdict journal (Unfinished p c) Legal first second =
      absurd (both_ways (is_finished script journal (numbered p c)) first.unfinished (second.in_order.finished p c first.there))
  one_verdict journal (Unfinished p c) (NotLegal n rule) first second =
      absurd (none_breaks journal first.store n rule first.legal first.in_order second)
  one_verdict journal (Unfinished p c) (Unfinished q d) first second =
      let same : p ≡ q = one_process journal p q c d first second in
      ap (λ k. Unfinished k c) same
      ∙ ap (Unfinished q) (one_call journal q c d (subst (λ (k : ℕ). LacksEndOf v script journal k c) same first) second)

  -- so what holds tells the verdict
  pub told_legal : (journal : List Entry) (verdict : Verdict) → IsVerdict v script journal verdict →
      (verdict ≡ Legal) ↔ IsLegalInOrder v script journal
  told_legal journal verdict is = (
    λ (same : verdict ≡ Legal). subst (IsVerdict v script journal) same is,
    λ (holds : IsLegalInOrder v script journal). one_verdict journal verdict Legal is holds,
  )

  pub told_broken : (journal : List Entry) (verdict : Verdict) → IsVerdict v script journal verdict → (entry rule : ℕ) →
      (verdict ≡ NotLegal entry rule) ↔ BreaksFirst v script journal entry rule
  told_broken journal verdict is entry rule = (
    λ (same : verdict ≡ NotLegal entry rule). subst (IsVerdict v script journal) same is,
    λ (holds : BreaksFirst v script journal entry rule). one_verdict journal verdict (NotLegal entry rule) is holds,
  )

  pub told_unfinished : (journal : List Entry) (verdict : Verdict) → IsVerdict v script journal verdict → (process call : ℕ) →
      (verdict ≡ Unfinished process call) ↔ LacksEndOf v script journal process call
  told_unfinished journal verdict is process call = (
    λ (same : verdict ≡ Unfinished process call). subst (IsVerdict v script journal) same is,
    λ (holds : LacksEndOf v script journal process call). one_verdict journal verdict (Unfinished process call) is holds,
  )

  -- ---- the verdict that is told

  -- an entry that breaks a rule after those that were followed
  pub breaks_first : (journal : List Entry) (number rule : ℕ) (e : Entry) (k : Kept) (finished : List ℕ) → slice_get journal number ≡ Some e →
      IsFollowed v script (take number journal) k finished → BreaksRule script (take number journal) (led_to script (take number journal) k) e rule →
      BreaksFirst v script journal number rule
  breaks_first journal number rule e k finished is followed broken =
      let parts = split_at journal number e is in
      record {
        before = take number journal;
        entry = e;
        after = drop (suc number) journal;
        parts = parts.0;
        number_is = parts.1;
        store = led_to script (take number journal) k;
        legal = followed.history.legal;
        in_order = followed.history.in_order;
        broken = broken;
      }

  -- no call of a process that is not there
  calls_there : (process number : ℕ) → number < length (calls_of script process) → process < length script.processes
  calls_there process number less =
      elim (slice_get_cases script.processes process).1 [
        | inl there ↦ there.1
        | inr past ↦
            let none : length (calls_of script process) ≡ 0 =
            ap (λ (o : Option Process). length (option_map_or (λ (p : Process). p.calls) o [])) past.1 in
            absurd (omega arith)
      ]

  -- all calls are finished
  pub all_finished : (journal : List Entry) (k : Kept) (finished : List ℕ) → IsFollowed v script journal k finished → IsFirstLess finished script None →
      IsLegalInOrder v script journal
  all_finished journal k finished followed none = record {
    store = led_to script journal k;
    legal = followed.history.legal;
    in_order = record {
      so_far = followed.history.in_order;
      finished = λ process call there.
          let enough : length (calls_of script process) ≤ slice_index finished process = none process (calls_there process call there) in
          followed.counts.done process call (omega arith);
    };
  }

  -- this call is the first unfinished one
  pub lacks_end : (journal : List Entry) (k : Kept) (finished : List ℕ) (at : At) → IsFollowed v script journal k finished →
      IsFirstLess finished script (Some at) → LacksEndOf v script journal at.process at.call
  lacks_end journal k finished at followed less =
      let same : at.call ≡ slice_index finished at.process = less.1 in
      record {
        store = led_to script journal k;
        legal = followed.history.legal;
        in_order = followed.history.in_order;
        there = less.0;
        unfinished = subst (λ (n : ℕ). is_finished script journal (numbered at.process n) ≡ false) (sym same) (followed.counts.next at.process);
        earlier_calls = λ earlier below. followed.counts.done at.process earlier (omega arith);
        earlier_processes = λ earlier number below there.
            let enough : length (calls_of script earlier) ≤ slice_index finished earlier = less.2 earlier below in
            followed.counts.done earlier number (omega arith);
      }
