-- The lines of numbers alone: what follows their first word.
use Rattle.std.proofs.Common.{◌≡◌, ℕ, ◌+◌, ◌-◌, ◌<◌, ◌≤◌, List, ◌++◌, sym, ap, ◌∙◌, arith}
use Rattle.std.specs.Prelude.{codes}
use Rattle.bd_base.specs.declared.limits.TheConstants.{ADDRESSES, BLOCK_SIZE, CALL_BYTES, LAST_PLACE, NAMED_FDS, USERS}
use Rattle.bd_base.specs.declared.script.Call.TheVariants.{Read, Truncate, Size, Map, Close, RawRead}
use Rattle.bd_blocks.specs.Texts.{IsWithin, before, number_text, two_numbers_text}
use Rattle.bd_blocks.specs.declared.text.numbers.Within.{Within}
use Rattle.bd_script.specs.declared.fault.Fault.{Fault}
use Rattle.bd_script.proofs.Lifts.{lift, same_at}
use Rattle.bd_script.specs.declared.numbers.Triple.{Triple}
use Rattle.bd_script.specs.Reading.{FitsPair, FitsTriple, RefusesLine, RefusesNumber, RefusesPair, RefusesTriple, triple_text}
use Rattle.bd_script.specs.Rules.{IsForm, IsInRange}
use Rattle.bd_script.specs.Texts.{Form, ProcForm, CallForm, form_text}

proc-up : (rest : List ℕ) (f : Form) → IsForm f → codes "proc " ++ rest ≡ form_text f → (n : ℕ) × Unit {0} × (rest ≡ number_text n)
proc-up rest (ProcForm uid) is same = (uid, tt, cc same)
proc-up rest (CallForm (Size fd)) is same = absurd (omega (arith, same_at 0 _ _ same, same_at 1 _ _ same, same_at 4 _ _ same))
proc-up rest f is same = absurd (omega (arith, same_at 0 _ _ same, same_at 1 _ _ same, same_at 4 _ _ same))

pub proc-refused : (a : Within) → ((n : ℕ) → n < USERS → IsWithin a n) → (rest : List ℕ) (fault : Fault) → RefusesNumber a rest fault
    → RefusesLine
    (codes "proc " ++ rest) fault
proc-refused a fits rest fault refused =
    lift number_text (λ (n : ℕ). Unit {0}) (IsWithin a) form_text IsForm IsInRange rest (codes "proc " ++ rest) (proc-up rest)
    (λ n _ same out. (ProcForm n, tt, ap (λ (l : List ℕ). codes "proc " ++ l) same, λ call. out (fits n call))) fault refused

size-up : (rest : List ℕ) (f : Form) → IsForm f → codes "size " ++ rest ≡ form_text f → (n : ℕ) × Unit {0} × (rest ≡ number_text n)
size-up rest (CallForm (Size uid)) is same = (uid, tt, cc same)
size-up rest f is same = absurd (omega (arith, same_at 0 _ _ same, same_at 1 _ _ same, same_at 4 _ _ same))

pub size-refused : (a : Within) → ((n : ℕ) → n < NAMED_FDS → IsWithin a n) → (rest : List ℕ) (fault : Fault) → RefusesNumber a rest fault
    → RefusesLine
    (codes "size " ++ rest) fault
size-refused a fits rest fault refused =
    lift number_text (λ (n : ℕ). Unit {0}) (IsWithin a) form_text IsForm IsInRange rest (codes "size " ++ rest) (size-up rest)
    (λ n _ same out. (CallForm (Size n), tt, ap (λ (l : List ℕ). codes "size " ++ l) same, λ call. out (fits n call))) fault refused

map-up : (rest : List ℕ) (f : Form) → IsForm f → codes "map " ++ rest ≡ form_text f → (n : ℕ) × Unit {0} × (rest ≡ number_text n)
map-up rest (CallForm (Map uid)) is same = (uid, tt, cc same)
map-up rest f is same = absurd (omega (arith, same_at 0 _ _ same, same_at 1 _ _ same, same_at 4 _ _ same))

pub map-refused : (a : Within) → ((n : ℕ) → n < NAMED_FDS → IsWithin a n) → (rest : List ℕ) (fault : Fault) → RefusesNumber a rest fault
    → RefusesLine
    (codes "map " ++ rest) fault
map-refused a fits rest fault refused =
    lift number_text (λ (n : ℕ). Unit {0}) (IsWithin a) form_text IsForm IsInRange rest (codes "map " ++ rest) (map-up rest)
    (λ n _ same out. (CallForm (Map n), tt, ap (λ (l : List ℕ). codes "map " ++ l) same, λ call. out (fits n call))) fault refused

close-up : (rest : List ℕ) (f : Form) → IsForm f → codes "close " ++ rest ≡ form_text f → (n : ℕ) × Unit {0} × (rest ≡ number_text n)
close-up rest (CallForm (Close uid)) is same = (uid, tt, cc same)
close-up rest f is same = absurd (omega (arith, same_at 0 _ _ same, same_at 1 _ _ same, same_at 4 _ _ same))

pub close-refused : (a : Within) → ((n : ℕ) → n < NAMED_FDS → IsWithin a n) → (rest : List ℕ) (fault : Fault) → RefusesNumber a rest fault
    → RefusesLine
    (codes "close " ++ rest) fault
close-refused a fits rest fault refused =
    lift number_text (λ (n : ℕ). Unit {0}) (IsWithin a) form_text IsForm IsInRange rest (codes "close " ++ rest) (close-up rest)
    (λ n _ same out. (CallForm (Close n), tt, ap (λ (l : List ℕ). codes "close " ++ l) same, λ call. out (fits n call))) fault refused

truncate-up : (rest : List ℕ) (f : Form) → IsForm f → codes "truncate " ++ rest ≡ form_text f → (p : ℕ × ℕ) × Unit {0}
    × (rest ≡ two_numbers_text p)
truncate-up rest (CallForm (Truncate fd size)) is same = ((fd, size), tt, cc same)
truncate-up rest f is same = absurd (omega (arith, same_at 0 _ _ same, same_at 1 _ _ same, same_at 4 _ _ same))

pub truncate-refused : (a b : Within) → ((n : ℕ) → n < NAMED_FDS → IsWithin a n) → ((n : ℕ) → n ≤ LAST_PLACE → IsWithin b n) →
    (rest : List ℕ) (fault : Fault) → RefusesPair a b rest fault → RefusesLine (codes "truncate " ++ rest) fault
truncate-refused a b fits_a fits_b rest fault refused =
    lift two_numbers_text (λ (p : ℕ × ℕ). Unit {0}) (FitsPair a b) form_text IsForm IsInRange rest (codes "truncate " ++ rest) (truncate-up rest)
    (λ p _ same out. (
      CallForm (Truncate p.0 p.1),
      tt,
      ap (λ (l : List ℕ). codes "truncate " ++ l) same,
      λ call. out
          (fits_a p.0 call.0, fits_b p.1 call.1),
    )) fault refused

-- three numbers
abbrev pub triple : ℕ → ℕ → ℕ → Triple
triple a b c = record { first = a; second = b; third = c }

read-up : (rest : List ℕ) (f : Form) → IsForm f → codes "read " ++ rest ≡ form_text f → (t : Triple) × Unit {0} × (rest ≡ triple_text t)
read-up rest (CallForm (Read fd off len)) is same = (triple fd off len, tt, cc same)
read-up rest f is same = absurd (omega (arith, same_at 0 _ _ same, same_at 1 _ _ same, same_at 4 _ _ same))

pub read-refused : (a b c : Within) → ((n : ℕ) → n < NAMED_FDS → IsWithin a n) → ((n : ℕ) → n ≤ LAST_PLACE → IsWithin b n)
    → ((n : ℕ) → 1 ≤ n → n ≤ CALL_BYTES → IsWithin c n) →
    (rest : List ℕ) (fault : Fault) → RefusesTriple a b c rest fault → RefusesLine (codes "read " ++ rest) fault
read-refused a b c fits_a fits_b fits_c rest fault refused =
    lift triple_text (λ (t : Triple). Unit {0}) (FitsTriple a b c) form_text IsForm IsInRange rest (codes "read " ++ rest) (read-up rest)
    (λ t _ same out. (
      CallForm (Read t.first t.second t.third),
      tt,
      ap (λ (l : List ℕ). codes "read " ++ l) same,
      λ call. out
          (fits_a t.first call.0, fits_b t.second call.1, fits_c t.third call.2 call.3),
    )) fault refused

raw_read-up : (rest : List ℕ) (f : Form) → IsForm f → codes "raw-read " ++ rest ≡ form_text f → (t : Triple) × Unit {0} × (rest ≡ triple_text t)
raw_read-up rest (CallForm (RawRead vba range)) is same = (triple vba range.lo (range.hi - range.lo), tt, cc same)
raw_read-up rest f is same = absurd (omega (arith, same_at 0 _ _ same, same_at 1 _ _ same, same_at 4 _ _ same))

-- the line of a raw read of so many bytes from a place
pub raw_read-text : (rest : List ℕ) (vba lo len : ℕ) → rest ≡ triple_text (triple vba lo len) → codes "raw-read " ++ rest ≡ form_text
    (CallForm (RawRead vba (record { lo = lo; hi = lo + len })))
raw_read-text rest vba lo len same =
    let count : lo + len - lo ≡ len = omega arith in
    ap (λ (l : List ℕ). codes "raw-read " ++ l) (same ∙ ap (λ (n : ℕ). before (number_text vba) (before (number_text lo) (number_text n))) (sym count))

pub raw_read-refused : (a b c : Within) → ((n : ℕ) → n < ADDRESSES → IsWithin a n) → ((n : ℕ) → n < BLOCK_SIZE → IsWithin b n)
    → ((n : ℕ) → 1 ≤ n → n ≤ BLOCK_SIZE → IsWithin c n) →
    (rest : List ℕ) (fault : Fault) → RefusesTriple a b c rest fault → RefusesLine (codes "raw-read " ++ rest) fault
raw_read-refused a b c fits_a fits_b fits_c rest fault refused =
    lift triple_text (λ (t : Triple). Unit {0}) (FitsTriple a b c) form_text IsForm IsInRange rest (codes "raw-read " ++ rest) (raw_read-up rest)
    (λ t _ same out. (
      CallForm (RawRead t.first (record { lo = t.second; hi = t.second + t.third })),
      omega arith,
      raw_read-text rest t.first t.second t.third same,
      λ call. out (fits_a t.first call.0, fits_b t.second (omega (arith, call.1, call.2)), fits_c t.third (omega (arith, call.1)) (omega (arith, call.2))),
    )) fault refused
