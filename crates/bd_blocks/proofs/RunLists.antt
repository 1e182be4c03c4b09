-- Lists of runs that are the longest ones, and their bytes.
use Rattle.std.proofs.Common.{◌≡◌, ◌≢◌, ℕ, zero, suc, ◌+◌, ◌<◌, ◌≤◌, Bool, true, false, cond, List, [], ◌∷◌, ◌++◌, replicate, length, drop, ◌-◌, refl, sym, ap, ◌∙◌, subst, arith, append_assoc, add-one}
use Rattle.std.specs.Prelude.{nat_eq, slice_index}
use Rattle.std.proofs.lemmas.Bool.Decides.{nat_tests}
use Rattle.std.proofs.lemmas.List.Elements.{All-nil, All-head, All-tail, All-append, All-replicate}
use Rattle.bd_base.specs.Bytes.{AreBytes}
use Rattle.bd_blocks.specs.Runs.{AreRuns, AreRunsOfMore, IsRunAt, NotFirst, NotFirstByte, Run, bytes_of, later_text, run_at_text, run_text, runs_of, runs_text, text_of, with_front_byte}
use Rattle.bd_blocks.proofs.RunTexts.{later-no_digit, run-unique}

front-same : (b n : ℕ) (rs : List Run) → with_front_byte b (record { byte = b; count = n } ∷ rs) ≡ record { byte = b; count = n + 1 } ∷ rs
front-same b n rs = let same : nat_eq b b ≡ true = grind (arith, nat_tests) in rw same refl

front-other : (b : ℕ) (rs : List Run) → NotFirst b rs → with_front_byte b rs ≡ record { byte = b; count = 1 } ∷ rs
front-other b [] h = refl
front-other b (r ∷ rs) h = let other : nat_eq r.byte b ≡ false = grind (arith, nat_tests, h) in rw other refl

-- a run of one byte in front of bytes that begin with another
pub runs-front : (b n : ℕ) (bytes : List ℕ) → NotFirst b (runs_of bytes) → runs_of (replicate (suc n) b ++ bytes) ≡
    record { byte = b; count = suc n } ∷ runs_of bytes
runs-front b zero bytes h = front-other b (runs_of bytes) h
runs-front b (suc n) bytes h =
    ap (with_front_byte b) (runs-front b n bytes h)
    ∙ front-same b (suc n) (runs_of bytes)
    ∙ ap (λ (k : ℕ). let run : Run = record { byte = b; count = k } in run ∷ runs_of bytes) (add-one (suc n))

pub runs-front_positive : (b n : ℕ) (bytes : List ℕ) → 0 < n → NotFirst b (runs_of bytes) → runs_of (replicate n b ++ bytes) ≡
    record { byte = b; count = n } ∷ runs_of bytes
runs-front_positive b zero bytes p h = absurd (omega arith)
runs-front_positive b (suc n) bytes p h = runs-front b n bytes h

-- the runs of the bytes of runs are those runs
pub runs-of_bytes : (rs : List Run) → AreRuns rs → runs_of (bytes_of rs) ≡ rs
runs-of_bytes [] a = refl
runs-of_bytes (r ∷ rs) a =
    let later = runs-of_bytes rs a.3 in
    runs-front_positive r.byte r.count (bytes_of rs) a.1 (subst (NotFirst r.byte) (sym later) a.2)
    ∙ ap (λ (qs : List Run). r ∷ qs) later

are-runs-front : (b : ℕ) (rs : List Run) → b < 256 → AreRuns rs → AreRuns (with_front_byte b rs)
are-runs-front b [] h a = (h, omega arith, tt, tt)
are-runs-front b (r ∷ rs) h a = cases (nat_eq r.byte b) refl where
  cases : (t : Bool) → nat_eq r.byte b ≡ t
      → AreRuns (cond t (record { byte = b; count = r.count + 1 } ∷ rs) (record { byte = b; count = 1 } ∷ r ∷ rs))
  cases true e =
      let same : r.byte ≡ b = grind (arith, nat_tests, e) in
      (h, omega arith, subst (λ (x : ℕ). NotFirst x rs) same a.2, a.3)
  cases false e =
      let other : r.byte ≢ b = λ same. grind (arith, nat_tests, e, same) in
      (h, omega arith, other, a)

-- the runs of bytes are the longest ones
pub are-runs : (bytes : List ℕ) → AreBytes bytes → AreRuns (runs_of bytes)
are-runs [] h = tt
are-runs (b ∷ bs) h = are-runs-front b (runs_of bs) (All-head (λ x. x < 256) b bs h) (are-runs bs (All-tail (λ x. x < 256) b bs h))

bytes-front : (b : ℕ) (rs : List Run) → bytes_of (with_front_byte b rs) ≡ b ∷ bytes_of rs
bytes-front b [] = refl
bytes-front b (r ∷ rs) = cases (nat_eq r.byte b) refl where
  cases : (t : Bool) → nat_eq r.byte b ≡ t
      → bytes_of (cond t (record { byte = b; count = r.count + 1 } ∷ rs) (record { byte = b; count = 1 } ∷ r ∷ rs)) ≡ b ∷
      (replicate r.count r.byte ++ bytes_of rs)
  cases true e =
      let same : r.byte ≡ b = grind (arith, nat_tests, e) in
      ap (λ (k : ℕ). replicate k b ++ bytes_of rs) (add-one r.count) ∙ ap (λ (x : ℕ). b ∷ (replicate r.count x ++ bytes_of rs)) (sym same)
  cases false e = refl

-- the bytes of the runs of bytes are those bytes
pub bytes-of_runs : (bytes : List ℕ) → bytes_of (runs_of bytes) ≡ bytes
bytes-of_runs [] = refl
bytes-of_runs (b ∷ bs) = bytes-front b (runs_of bs) ∙ ap (λ l. b ∷ l) (bytes-of_runs bs)

pub bytes-all : (rs : List Run) → AreRuns rs → AreBytes (bytes_of rs)
bytes-all [] a = All-nil (λ x. x < 256)
bytes-all (r ∷ rs) a = All-append (λ x. x < 256) (replicate r.count r.byte) (bytes_of rs) (All-replicate (λ x. x < 256) r.count r.byte a.0)
    (bytes-all rs a.3)

-- bytes that begin with another byte have runs that do
front-not_first : (b x : ℕ) (rs : List Run) → x ≢ b → NotFirst b (with_front_byte x rs)
front-not_first b x [] h = h
front-not_first b x (r ∷ rs) h = cases (nat_eq r.byte x) where
  cases : (t : Bool) → NotFirst b (cond t (record { byte = x; count = r.count + 1 } ∷ rs) (record { byte = x; count = 1 } ∷ r ∷ rs))
  cases true = h
  cases false = h

pub not_first-runs : (b : ℕ) (bytes : List ℕ) → NotFirstByte b bytes → NotFirst b (runs_of bytes)
not_first-runs b [] h = tt
not_first-runs b (x ∷ xs) h = front-not_first b x (runs_of xs) h

later-injective : (rs qs : List Run) → AreRuns rs → AreRuns qs → later_text rs ≡ later_text qs → rs ≡ qs
later-injective [] [] a b e = refl
later-injective [] (q ∷ qs) a b e = cc
later-injective (r ∷ rs) [] a b e = cc
later-injective (r ∷ rs) (q ∷ qs) a b e =
    let texts : run_text r ++ later_text rs ≡ run_text q ++ later_text qs = cc in
    let same = run-unique r q (later_text rs) (later_text qs) a.0 b.0 (later-no_digit rs) (later-no_digit qs) texts in
    cc (same.0, later-injective rs qs a.3 b.3 same.1)

-- the longest run at the front of bytes, and the runs of the others
pub runs-split : (b n : ℕ) (bytes rest : List ℕ) → bytes ≡ replicate n b ++ rest → 0 < n → NotFirstByte b rest → runs_of bytes ≡
    record { byte = b; count = n } ∷ runs_of rest
runs-split b n bytes rest e p h = ap runs_of e ∙ runs-front_positive b n rest p (not_first-runs b rest h)

-- the longest run from a place on, and the runs of the bytes after it
at-split : (bytes : List ℕ) (at end : ℕ) → (is : IsRunAt bytes at end)
    → runs_of (drop at bytes) ≡ record { byte = slice_index bytes at; count = end - at } ∷ runs_of (drop end bytes)
at-split bytes at end is =
    runs-split (slice_index bytes at) (end - at) (drop at bytes) (drop end bytes) is.run (omega (arith, is.after)) is.longest

-- the first run was written: what follows of the text is that of the later runs
pub first-written : (old bytes : List ℕ) (end : ℕ) → IsRunAt bytes 0 end
    → (old ++ run_at_text bytes 0 end) ++ later_text (runs_of (drop end bytes)) ≡ old ++ runs_text bytes
first-written old bytes end is =
    append_assoc old (run_at_text bytes 0 end) (later_text (runs_of (drop end bytes)))
    ∙ ap (λ (l : List ℕ). old ++ l) (sym (ap text_of (at-split bytes 0 end is)))

-- one run more was written, after a comma
pub later-written : (whole text bytes : List ℕ) (at end : ℕ) → IsRunAt bytes at end
    → text ++ later_text (runs_of (drop at bytes)) ≡ whole
    → ((text ++ 44 ∷ []) ++ run_at_text bytes at end) ++ later_text (runs_of (drop end bytes)) ≡ whole
later-written whole text bytes at end is so_far =
    simp append_assoc (ap (λ (rs : List Run). text ++ later_text rs) (sym (at-split bytes at end is)) ∙ so_far)

text-injective : (rs qs : List Run) → AreRuns rs → AreRuns qs → text_of rs ≡ text_of qs → rs ≡ qs
text-injective [] [] a b e = refl
text-injective [] (q ∷ qs) a b e = cc
text-injective (r ∷ rs) [] a b e = cc
text-injective (r ∷ rs) (q ∷ qs) a b e =
    let same = run-unique r q (later_text rs) (later_text qs) a.0 b.0 (later-no_digit rs) (later-no_digit qs) e in
    cc (same.0, later-injective rs qs a.3 b.3 same.1)

-- a text is the runs of one list of bytes at most
pub runs-injective : (a b : List ℕ) → AreBytes a → AreBytes b → runs_text a ≡ runs_text b → a ≡ b
runs-injective a b h k e =
    sym (bytes-of_runs a) ∙ ap bytes_of (text-injective (runs_of a) (runs_of b) (are-runs a h) (are-runs b k) e) ∙ bytes-of_runs b

-- a text of bytes that are not more than so many is not the runs of more
pub runs-not_more : (text bytes : List ℕ) (most : ℕ) → AreBytes bytes → runs_text bytes ≡ text → length bytes ≤ most
    → ¬ AreRunsOfMore most text
runs-not_more text bytes most are spelled within more =
    let same : more.0 ≡ bytes = runs-injective more.0 bytes more.1 are (more.2 ∙ sym spelled) in
    omega (arith, more.3, within, ap (λ (l : List ℕ). length l) same)
