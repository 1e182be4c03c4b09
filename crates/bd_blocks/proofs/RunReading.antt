-- How far a text of runs was read: what each reading of the whole says of the rest, and the other way round.
use Rattle.std.specs.Prelude.{IsErrOf, Result, Ok, Err}
use Rattle.std.proofs.Common.{◌≡◌, ◌≢◌, ◌⊎◌, inl, inr, ℕ, ◌+◌, ◌^◌, ◌<◌, ◌≤◌, false, List, [], ◌∷◌, ◌++◌, length, replicate, Option, None, Some, refl, sym, ap, ◌∙◌, subst, arith, ⊎_elim, append_assoc, append-nil, length-append}
use Rattle.std.proofs.lemmas.List.{length-replicate}
use Rattle.bd_base.specs.Bytes.{AreBytes}
use Rattle.bd_blocks.specs.Reading.{Fills, IsNoNextRun, IsRunText, NotPrior, TakesItem}
use Rattle.bd_blocks.specs.Runs.{AreNoRuns, AreRuns, AreRunsOfMore, AreRunsUpTo, Run, bytes_of, later_text, run_text, runs_of, runs_text, text_of}
use Rattle.bd_blocks.specs.Texts.{IsNumber, has_byte}
use Rattle.bd_blocks.specs.declared.read.Progress.{Progress}
use Rattle.bd_blocks.specs.declared.read.Room.{Room}
use Rattle.bd_blocks.specs.declared.read.Room.TheVariants.{Left, Passed}
use Rattle.bd_blocks.specs.declared.read.RunsError.{RunsError}
use Rattle.bd_blocks.specs.declared.read.RunsError.TheVariants.{NotRuns, TooMany, OutOfMemory}
use Rattle.bd_blocks.specs.declared.text.numbers.Number.{Number}
use Rattle.bd_blocks.specs.declared.text.numbers.Number.TheVariants.{Small, Large}
use Rattle.bd_blocks.proofs.FieldTexts.{no_split, unique_split}
use Rattle.bd_blocks.proofs.NumberTexts.{NoDigitFirst}
use Rattle.bd_blocks.proofs.RunLists.{are-runs, bytes-all, runs-injective, runs-of_bytes}
use Rattle.bd_blocks.proofs.RunTexts.{later-no_digit, run-has_no, run-unique}

-- these bytes were read, and this room is left of most, or they are more than that
abbrev pub Holds : ℕ → List ℕ → List ℕ → Room → Type 0
Holds most done bytes (Left room) = (bytes ≡ done) × (length done + room ≡ most)
Holds most done bytes Passed = most < length done

-- the rest begins with this run, and others follow
pub record Begins (rest : List ℕ) (prior : Option ℕ) (r : Run) (rs : List Run) : Type 0 where
  pub are : AreRuns (r ∷ rs)
  pub other : NotPrior prior r.byte
  pub spelled : rest ≡ run_text r ++ later_text rs

-- runs of this text, which end with these
pub record EndsWith (text : List ℕ) (done : List ℕ) (runs : List Run) : Type 0 where
  pub whole : List Run
  pub are : AreRuns whole
  pub spelled : text_of whole ≡ text
  pub bytes : bytes_of whole ≡ done ++ bytes_of runs

-- the rest is to begin with a run, and its runs are the last of those of the text
pub record IsSoFar (text rest : List ℕ) (most : ℕ) (progress : Progress) (bytes : List ℕ) : Type 0 where
  pub done : List ℕ
  pub holds : Holds most done bytes progress.room
  pub onward : (qs : List Run) → AreRuns qs → text_of qs ≡ text → (r : Run) × (rs : List Run) × Begins rest progress.prior r rs
  pub back : (r : Run) (rs : List Run) → Begins rest progress.prior r rs → EndsWith text done (r ∷ rs)

pub so_far-start : (text : List ℕ) (most : ℕ) (bytes : List ℕ) → text ≢ 45 ∷ [] → bytes ≡ []
    → IsSoFar text text most (record { prior = None; room = Left most }) bytes
so_far-start text most bytes some empty = record {
  done = [];
  holds = (empty, omega arith);
  onward = first;
  back = λ r rs b. record { whole = r ∷ rs; are = b.are; spelled = sym b.spelled; bytes = refl };
} where
  first : (qs : List Run) → AreRuns qs → text_of qs ≡ text → (r : Run) × (rs : List Run) × Begins text None r rs
  first [] are same = absurd (some (sym same))
  first (r ∷ rs) are same = (r, rs, record { are = are; other = tt; spelled = sym same })

-- what is held after a run of n bytes
holds-more : (most n : ℕ) (done old new : List ℕ) (room : Room) (byte : ℕ) (count : Number) (left : Room) → most < 2 ^ 64
    → IsNumber count n → Holds most done old room → Fills old new room byte count left → Holds most (done ++ replicate n byte) new left
holds-more most n done old new Passed byte count left small is_n h f =
    let more : most < length (done ++ replicate n byte) = omega (arith, h, length-append done (replicate n byte)) in
    subst (Holds most (done ++ replicate n byte) new) (sym f) more
holds-more most n done old new (Left room) byte Large left small is_n h f =
    let more : most < length (done ++ replicate n byte) =
    omega (arith, is_n, small, length-append done (replicate n byte), length-replicate n byte) in
    subst (Holds most (done ++ replicate n byte) new) (sym f) more
holds-more most n done old new (Left room) byte (Small c) Passed small is_n h f =
    omega (arith, is_n, f, h.1, length-append done (replicate n byte), length-replicate n byte)
holds-more most n done old new (Left room) byte (Small c) (Left left) small is_n h f =
    let items : new ≡ done ++ replicate n byte =
    f.1 ∙ ap (λ (l : List ℕ). l ++ replicate c byte) h.0 ∙ ap (λ (k : ℕ). done ++ replicate k byte) (sym is_n) in
    (items, omega (arith, is_n, f.0, h.1, length-append done (replicate n byte), length-replicate n byte))

-- the run at the front of the rest is the one that each reading has there
front-run : (rest : List ℕ) (prior : Option ℕ) (byte : ℕ) (count : Number) (item follows : List ℕ) (r : Run) (rs : List Run)
    → (i : IsRunText item byte count) → rest ≡ item ++ follows → NoDigitFirst follows → Begins rest prior r rs
    → (r ≡ record { byte = byte; count = i.number }) × (later_text rs ≡ follows)
front-run rest prior byte count item follows r rs i split no_digit b =
    run-unique r (record { byte = byte; count = i.number }) (later_text rs) follows b.are.0 i.is_byte (later-no_digit rs) no_digit
    (sym b.spelled ∙ split ∙ ap (λ (l : List ℕ). l ++ follows) i.spelled)

next-begins : (byte : ℕ) (next : List ℕ) (r : Run) (rs : List Run) → r.byte ≡ byte → AreRuns (r ∷ rs) → later_text rs ≡ 44 ∷ next
    → (q : Run) × (qs : List Run) × Begins next (Some byte) q qs
next-begins byte next r [] same are text = cc
next-begins byte next r (q ∷ qs) same are text =
    let spelled : next ≡ run_text q ++ later_text qs = cc in
    (q, qs, record { are = are.3; other = subst (λ (x : ℕ). q.byte ≢ x) same are.2; spelled = spelled })

comma-no_digit : (next : List ℕ) → NoDigitFirst (44 ∷ next)
comma-no_digit next = λ low high. omega (arith, low)

-- after an item and a comma
pub so_far-step : (text rest item next : List ℕ) (most : ℕ) (was is : Progress) (old new : List ℕ) → most < 2 ^ 64
    → rest ≡ item ++ 44 ∷ next → IsSoFar text rest most was old → TakesItem old new was item is → IsSoFar text next most is new
so_far-step text rest item next most was is old new small split p t = record {
  done = p.done ++ replicate t.is_run.number t.byte;
  holds = holds-more most t.is_run.number p.done old new was.room t.byte t.count is.room small t.is_run.is_count p.holds t.fills;
  onward = onward;
  back = back;
} where
  onward : (qs : List Run) → AreRuns qs → text_of qs ≡ text → (r : Run) × (rs : List Run) × Begins next is.prior r rs
  onward qs are same =
      let front = p.onward qs are same in
      let run = front-run rest was.prior t.byte t.count item (44 ∷ next) front.0 front.1 t.is_run split (comma-no_digit next) front.2 in
      let begins = next-begins t.byte next front.0 front.1 (ap (λ (x : Run). x.byte) run.0) front.2.are run.1 in
      (begins.0, begins.1, subst (λ (o : Option ℕ). Begins next o begins.0 begins.1) (sym t.prior) begins.2)

  back : (r : Run) (rs : List Run) → Begins next is.prior r rs → EndsWith text (p.done ++ replicate t.is_run.number t.byte) (r ∷ rs)
  back r rs b' =
      let b : Begins next (Some t.byte) r rs = subst (λ (o : Option ℕ). Begins next o r rs) t.prior b' in
      let run : Run = record { byte = t.byte; count = t.is_run.number } in
      let begins : Begins rest was.prior run (r ∷ rs) = record {
        are = (t.is_run.is_byte, t.is_run.positive, b.other, b.are);
        other = t.other;
        spelled = split ∙ ap (λ (l : List ℕ). l ++ 44 ∷ next) t.is_run.spelled ∙ ap (λ (l : List ℕ). run_text run ++ 44 ∷ l) b.spelled;
      } in
      let ends = p.back run (r ∷ rs) begins in
      record {
        whole = ends.whole;
        are = ends.are;
        spelled = ends.spelled;
        bytes = ends.bytes ∙ sym (append_assoc p.done (replicate t.is_run.number t.byte) (bytes_of (r ∷ rs)));
      }

-- a text that was read: its runs, and the bytes that are held
pub record IsRead (text : List ℕ) (most : ℕ) (bytes : List ℕ) (room : Room) : Type 0 where
  pub runs : List Run
  pub are : AreRuns runs
  pub spelled : text_of runs ≡ text
  pub holds : Holds most (bytes_of runs) bytes room

-- after the last item
pub so_far-end : (text rest : List ℕ) (most : ℕ) (was is : Progress) (old new : List ℕ) → most < 2 ^ 64
    → IsSoFar text rest most was old → TakesItem old new was rest is → IsRead text most new is.room
so_far-end text rest most was is old new small p t =
    let run : Run = record { byte = t.byte; count = t.is_run.number } in
    let begins : Begins rest was.prior run [] = record {
      are = (t.is_run.is_byte, t.is_run.positive, tt, tt);
      other = t.other;
      spelled = t.is_run.spelled ∙ sym (append-nil (run_text run));
    } in
    let ends = p.back run [] begins in
    let bytes : bytes_of ends.whole ≡ p.done ++ replicate t.is_run.number t.byte =
    ends.bytes ∙ ap (λ (l : List ℕ). p.done ++ l) (append-nil (replicate t.is_run.number t.byte)) in
    let held = holds-more most t.is_run.number p.done old new was.room t.byte t.count is.room small t.is_run.is_count p.holds t.fills in
    record {
      runs = ends.whole;
      are = ends.are;
      spelled = ends.spelled;
      holds = subst (λ (l : List ℕ). Holds most l new is.room) (sym bytes) held;
    }

runs-spelled : (text : List ℕ) (runs : List Run) → AreRuns runs → text_of runs ≡ text → runs_text (bytes_of runs) ≡ text
runs-spelled text runs are same = ap text_of (runs-of_bytes runs are) ∙ same

pub read-spelled : (text : List ℕ) (most : ℕ) (bytes : List ℕ) (room : ℕ) → IsRead text most bytes (Left room) → runs_text bytes ≡ text
read-spelled text most bytes room i = ap runs_text i.holds.0 ∙ runs-spelled text i.runs i.are i.spelled

pub read-within : (text : List ℕ) (most : ℕ) (bytes : List ℕ) (room : ℕ) → IsRead text most bytes (Left room) → length bytes ≤ most
read-within text most bytes room i = omega (arith, ap (λ (l : List ℕ). length l) i.holds.0, i.holds.1)

pub read-more : (text : List ℕ) (most : ℕ) (bytes : List ℕ) → IsRead text most bytes Passed → AreRunsOfMore most text
read-more text most bytes i = (bytes_of i.runs, bytes-all i.runs i.are, runs-spelled text i.runs i.are i.spelled, i.holds)

-- the last item is that of no run that may follow
pub no-last : (text rest : List ℕ) (most : ℕ) (was : Progress) (bytes : List ℕ) → IsSoFar text rest most was bytes
    → has_byte 44 rest ≡ false → IsNoNextRun was.prior rest → AreNoRuns text
no-last text rest most was bytes p one none = λ whole are same.
    let front = p.onward (runs_of whole) (are-runs whole are) same in
    last front.0 front.1 front.2 where
      last : (r : Run) (rs : List Run) → Begins rest was.prior r rs → ⊥
      last r [] b = none r b.are.0 b.are.1 b.other (b.spelled ∙ append-nil (run_text r))
      last r (q ∷ qs) b = no_split 44 rest (run_text r) (run_text q ++ later_text qs) one b.spelled

-- the item before a comma is that of no run that may follow
pub no-item : (text rest item next : List ℕ) (most : ℕ) (was : Progress) (bytes : List ℕ) → IsSoFar text rest most was bytes
    → rest ≡ item ++ 44 ∷ next → has_byte 44 item ≡ false → IsNoNextRun was.prior item → AreNoRuns text
no-item text rest item next most was bytes p split one none = λ whole are same.
    let front = p.onward (runs_of whole) (are-runs whole are) same in
    middle front.0 front.1 front.2 where
      one-run : (r : Run) → has_byte 44 (run_text r) ≡ false
      one-run r = run-has_no 44 (omega arith) (λ same. omega arith) r

      middle : (r : Run) (rs : List Run) → Begins rest was.prior r rs → ⊥
      middle r [] b = no_split 44 (run_text r) item next (one-run r) (sym (append-nil (run_text r)) ∙ sym b.spelled ∙ split)
      middle r (q ∷ qs) b =
          none r b.are.0 b.are.1 b.other
          (unique_split 44 item (run_text r) next (run_text q ++ later_text qs) one (one-run r) (sym split ∙ b.spelled)).0

-- the same error of results of two types
pub err-of : {A B : Type 0} (e f : RunsError) → IsErrOf {T = A} (Err e) f → IsErrOf {T = B} (Err e) f
err-of {A} {B} e f same = let is : e ≡ f = cc same in ap (λ (x : RunsError). let r : Result B RunsError = Err x in r) is

-- one of two errors
pub err-either : {A : Type 0} {e : RunsError} (f g : RunsError) → (e ≡ f) ⊎ (e ≡ g) → IsErrOf {T = A} (Err e) f ⊎ IsErrOf {T = A} (Err e) g
err-either {A} {e} f g is =
    let err : RunsError → Result A RunsError = λ x. Err x in
    ⊎_elim (λ one. inl (ap err one)) (λ other. inr (ap err other)) is

-- what an error of reading says of the text
pub record Tells (text : List ℕ) (most : ℕ) (e : RunsError) : Type 0 where
  pub not_runs : IsErrOf {T = Unit {0}} (Err e) NotRuns → AreNoRuns text
  pub too_many : IsErrOf {T = Unit {0}} (Err e) TooMany → AreRunsOfMore most text

-- so each cause leaves no other answer
pub runs-refused : (text : List ℕ) (most : ℕ) (e : RunsError) → Tells text most e → AreRunsUpTo most text → e ≡ OutOfMemory
runs-refused text most NotRuns tells are = absurd (tells.not_runs refl are.0 are.1 are.2)
runs-refused text most TooMany tells are =
    let others = tells.too_many refl in
    let same : others.0 ≡ are.0 = runs-injective others.0 are.0 others.1 are.1 (others.2 ∙ sym are.2) in
    absurd (omega (arith, others.3, are.3, ap (λ (l : List ℕ). length l) same))
runs-refused text most OutOfMemory tells are = refl

pub no_runs-refused : (text : List ℕ) (most : ℕ) (e : RunsError) → Tells text most e → AreNoRuns text → (e ≡ NotRuns) ⊎ (e ≡ OutOfMemory)
no_runs-refused text most NotRuns tells none = inl refl
no_runs-refused text most TooMany tells none = let others = tells.too_many refl in absurd (none others.0 others.1 others.2)
no_runs-refused text most OutOfMemory tells none = inr refl

pub more-refused : (text : List ℕ) (most : ℕ) (e : RunsError) → Tells text most e → AreRunsOfMore most text → (e ≡ TooMany) ⊎ (e ≡ OutOfMemory)
more-refused text most NotRuns tells more = absurd (tells.not_runs refl more.0 more.1 more.2)
more-refused text most TooMany tells more = inl refl
more-refused text most OutOfMemory tells more = inr refl
