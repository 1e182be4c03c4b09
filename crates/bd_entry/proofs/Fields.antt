-- The fields of a line: each is one word, on one line, and the text of one value alone.
use Rattle.std.specs.Prelude.{IfNone, IfSome, codes, nat_eq}
use Rattle.std.proofs.Common.{◌≡◌, ℕ, ◌+◌, ◌*◌, false, cond, Option, None, Some, List, ◌∷◌, length, get_or, refl, sym, ap, ◌∙◌, subst, arith}
use Rattle.std.proofs.lemmas.List.{append_cancel_left}
use Rattle.bd_base.specs.Bounds.{Bounds}
use Rattle.bd_base.specs.declared.journal.Found.{Found}
use Rattle.bd_base.specs.declared.journal.Found.TheVariants.{NoDirectory, NoRight, NoEntry, Beyond}
use Rattle.bd_base.specs.declared.reason.Reason.{Reason}
use Rattle.bd_base.specs.declared.reason.Reason.TheVariants.{NoFile, Exists, Denied, Inodes, NoSpace, Extents, TooBig, OpenBy, BadFd, ReadOnly, FdsFull, KernelOpen}
use Rattle.bd_blocks.specs.Texts.{IsNumber, IsNumberText, IsWithin, Reads, before, has_byte, number_text, optional_text}
use Rattle.bd_blocks.specs.declared.text.TheConstants.{LF, SPACE}
use Rattle.bd_blocks.specs.declared.text.numbers.Number.{Number}
use Rattle.bd_blocks.proofs.FieldTexts.{append-has_no}
use Rattle.bd_base.proofs.Ranges.{bounds-same}
use Rattle.bd_blocks.proofs.NumberTexts.{number-has_no, number-injective, same-number}
use Rattle.bd_blocks.proofs.Spellings.{Every, IsField, IsLine, NoText, fewer-field, front_number-unique, number-field, optional-field}
use Rattle.bd_entry.specs.Ranges.{IsFound, IsOptional, IsRange, IsReason}
use Rattle.bd_entry.specs.Reading.{HasNoRangeFirst, HasRangeFirst, IsUpTo}
use Rattle.bd_entry.specs.Texts.{found_text, reason_text, word_text}
use Rattle.bd_entry.specs.declared.words.Word.{Word}
use Rattle.bd_entry.specs.declared.words.Word.TheVariants as word

-- a number of a range
pub upto-field : (most : ℕ) → IsField number_text (IsUpTo most)
upto-field most = fewer-field number_text Every (IsUpTo most) (λ n _. tt) number-field

-- a number below an end, or none
pub below-field : (end : ℕ) → IsField optional_text (IsOptional end)
below-field end = fewer-field optional_text Every (IsOptional end) (λ o _. tt) optional-field

-- a range, and what follows it
abbrev pub ranged_text : {B : Type 0} → (B → List ℕ) → Bounds × B → List ℕ
ranged_text {B} g p = before (number_text p.0.lo) (before (number_text p.0.hi) (g p.1))

abbrev pub RangedFit : {B : Type 0} → (B → Type 0) → Bounds × B → Type 0
RangedFit {B} G p = IsRange p.0 × G p.1

-- two readings of a range and what follows it agree
pub range-unique : (a b : Bounds) (r s : List ℕ) → before (number_text a.lo) (before (number_text a.hi) r) ≡ before (number_text b.lo)
    (before (number_text b.hi) s)
    → (a ≡ b) × (r ≡ s)
range-unique a b r s same =
    let lo = front_number-unique a.lo b.lo (before (number_text a.hi) r) (before (number_text b.hi) s) same in
    let hi = front_number-unique a.hi b.hi r s lo.1 in
    (bounds-same a b lo.0 hi.0, hi.1)

pub ranged-line : {B : Type 0} (g : B → List ℕ) (G : B → Type 0) → IsLine g G → IsLine (ranged_text g) (RangedFit G)
ranged-line {B} g G line = record { one_line = one; injective = injective } where
  number-one : (n : ℕ) → has_byte LF (number_text n) ≡ false
  number-one n = number-field.line.one_line n tt

  one : (p : Bounds × B) → RangedFit G p → has_byte LF (ranged_text g p) ≡ false
  one p fits =
      append-has_no LF (number_text p.0.lo) (SPACE ∷ before (number_text p.0.hi) (g p.1)) (number-one p.0.lo)
      (append-has_no LF (number_text p.0.hi) (SPACE ∷ g p.1) (number-one p.0.hi) (line.one_line p.1 fits.1))

  injective : (p q : Bounds × B) → RangedFit G p → RangedFit G q → ranged_text g p ≡ ranged_text g q → p ≡ q
  injective p q fits other same =
      let parts = range-unique p.0 q.0 (g p.1) (g q.1) same in
      let first : p.0 ≡ q.0 = parts.0 in
      let second : p.1 ≡ q.1 = line.injective p.1 q.1 fits.1 other.1 parts.1 in
      ap (λ (a : Bounds). let r : Bounds × B = (a, p.1) in r) first ∙ ap (λ (b : B). let r : Bounds × B = (q.0, b) in r) second

-- a text with no range in front is that of no range and more
pub no-ranged : {B : Type 0} (g : B → List ℕ) (G : B → Type 0) (text : List ℕ) → HasNoRangeFirst text
    → NoText (ranged_text g) (RangedFit G) text
no-ranged {B} g G text none p fits same = none p.0 (g p.1) fits.0 same

-- nor is one where no such text follows the range
pub no-ranged_rest : {B : Type 0} (g : B → List ℕ) (G : B → Type 0) (r : Bounds) (text rest : List ℕ) → HasRangeFirst text r rest
    → NoText g G rest → NoText (ranged_text g) (RangedFit G) text
no-ranged_rest {B} g G r text rest first none p fits same =
    none p.1 fits.1 (range-unique r p.0 rest (g p.1) (sym first.1 ∙ same)).1

-- two numbers in front that are no range are one in no reading
pub no-range : (lo hi : ℕ) (text rest : List ℕ) → text ≡ before (number_text lo) (before (number_text hi) rest)
    → ¬ IsRange (record { lo = lo; hi = hi }) → HasNoRangeFirst text
no-range lo hi text rest splits none r more is same =
    let bounds : Bounds = record { lo = lo; hi = hi } in
    let equal : bounds ≡ r = (range-unique bounds r rest more (sym splits ∙ same)).0 in
    let lo_is : lo ≡ r.lo = ap (λ (b : Bounds). b.lo) equal in
    let hi_is : hi ≡ r.hi = ap (λ (b : Bounds). b.hi) equal in
    none (omega (arith, is.0, lo_is, hi_is), omega (arith, is.1, hi_is))

-- a number that was read, where it is at most so much
pub within-reads : (most : ℕ) (text : List ℕ) (number : Number) (o : Option ℕ) → IsNumberText text number
    → IfSome o (λ v. (n : ℕ) → IsNumber number n → n ≡ v) → IfSome o (IsWithin (record { least = 0; most = most }))
    → IfNone o ((n : ℕ) → IsNumber number n → ¬ IsWithin (record { least = 0; most = most }) n) → Reads number_text (IsUpTo most) text o
within-reads most text number None is same fits none = λ m within spelled.
    let equal : is.0 ≡ m = number-injective is.0 m (sym is.2 ∙ spelled) in
    none m (subst (IsNumber number) equal is.1) (omega arith, within)
within-reads most text number (Some v) is same fits none = (fits.1, is.2 ∙ ap number_text (same is.0 is.1))

-- the length and the first two bytes of a text, as one number
key : List ℕ → ℕ
key text = (length text * 256 + get_or text 0 0) * 256 + get_or text 1 0

-- the word of which this number is told
word_of_key : ℕ → Word
word_of_key k =
    cond (nat_eq k 421744) word.Opened (
    cond (nat_eq k 484210) word.Created (
    cond (nat_eq k 549236) word.Attached (
    cond (nat_eq k 421217) word.Mapped (
    cond (nat_eq k 484204) word.Cleared (
    cond (nat_eq k 549989) word.Detached (
    cond (nat_eq k 418147) word.Access (
    cond (nat_eq k 421225) word.Missed (
    cond (nat_eq k 550264) word.Extended (
    cond (nat_eq k 553573) word.Released (
    cond (nat_eq k 357225) word.Sized (
    cond (nat_eq k 291689) word.Size (
    cond (nat_eq k 418668) word.Closed (
    cond (nat_eq k 554350) word.Unlinked word.Refused)))))))))))))

-- a word is one word on one line, and told back from its text
record IsWord (w : Word) : Type 0 where
  back : word_of_key (key (word_text w)) ≡ w
  no_space : has_byte SPACE (word_text w) ≡ false
  no_end : has_byte LF (word_text w) ≡ false

is-word : (w : Word) → IsWord w
unfolding key word_of_key
is-word word.Opened = record { back = refl; no_space = refl; no_end = refl }
is-word word.Created = record { back = refl; no_space = refl; no_end = refl }
is-word word.Attached = record { back = refl; no_space = refl; no_end = refl }
is-word word.Mapped = record { back = refl; no_space = refl; no_end = refl }
is-word word.Cleared = record { back = refl; no_space = refl; no_end = refl }
is-word word.Detached = record { back = refl; no_space = refl; no_end = refl }
is-word word.Access = record { back = refl; no_space = refl; no_end = refl }
is-word word.Missed = record { back = refl; no_space = refl; no_end = refl }
is-word word.Extended = record { back = refl; no_space = refl; no_end = refl }
is-word word.Released = record { back = refl; no_space = refl; no_end = refl }
is-word word.Sized = record { back = refl; no_space = refl; no_end = refl }
is-word word.Size = record { back = refl; no_space = refl; no_end = refl }
is-word word.Closed = record { back = refl; no_space = refl; no_end = refl }
is-word word.Unlinked = record { back = refl; no_space = refl; no_end = refl }
is-word word.Refused = record { back = refl; no_space = refl; no_end = refl }

words-injective : (v w : Word) → word_text v ≡ word_text w → v ≡ w
words-injective v w same = sym (is-word v).back ∙ ap (λ (t : List ℕ). word_of_key (key t)) same ∙ (is-word w).back

-- the word of an entry
pub word-field : IsField word_text (Every {A = Word})
word-field = record {
  one_word = λ w _. (is-word w).no_space;
  line = record { one_line = λ w _. (is-word w).no_end; injective = λ v w _ _ same. words-injective v w same };
}

-- the first byte of a text and the fourth, as one number
letters : List ℕ → ℕ
letters text = get_or text 0 0 * 256 + get_or text 3 0

-- the kinds of what is found, by number
abbrev found_kind : Found → ℕ
found_kind NoDirectory = 0
found_kind NoRight = 1
found_kind NoEntry = 2
found_kind (Beyond bytes) = 3

found_kind_of : ℕ → ℕ
found_kind_of k =
    cond (nat_eq k 28260) 0 (
    cond (nat_eq k 28274) 1 (
    cond (nat_eq k 28261) 2 (3)))

found-tells : (f : Found) → found_kind_of (letters (found_text f)) ≡ found_kind f
unfolding letters found_kind_of
found-tells NoDirectory = refl
found-tells NoRight = refl
found-tells NoEntry = refl
found-tells (Beyond bytes) = refl

found-cases : (f g : Found) → found_kind f ≡ found_kind g → found_text f ≡ found_text g → f ≡ g
found-cases NoDirectory NoDirectory kind same = refl
found-cases NoRight NoRight kind same = refl
found-cases NoEntry NoEntry kind same = refl
found-cases (Beyond m) (Beyond n) kind same = ap Beyond (same-number (codes "beyond ") m n same)
found-cases f g kind same = absurd (omega (arith, kind))

found-injective : (f g : Found) → found_text f ≡ found_text g → f ≡ g
found-injective f g same =
    found-cases f g (sym (found-tells f) ∙ ap (λ (t : List ℕ). found_kind_of (letters t)) same ∙ found-tells g) same

found-one_line : (f : Found) → has_byte LF (found_text f) ≡ false
found-one_line NoDirectory = refl
found-one_line NoRight = refl
found-one_line NoEntry = refl
found-one_line (Beyond bytes) = number-has_no LF (omega arith) bytes

-- what a walk found
pub found-line : IsLine found_text IsFound
found-line = record { one_line = λ f _. found-one_line f; injective = λ f g _ _ same. found-injective f g same }

-- the kinds of reasons, by number
abbrev reason_kind : Reason → ℕ
reason_kind NoFile = 0
reason_kind Exists = 1
reason_kind (Denied rule) = 2
reason_kind Inodes = 3
reason_kind NoSpace = 4
reason_kind Extents = 5
reason_kind TooBig = 6
reason_kind (OpenBy process fd) = 7
reason_kind BadFd = 8
reason_kind ReadOnly = 9
reason_kind FdsFull = 10
reason_kind (KernelOpen process) = 11

reason_kind_of : ℕ → ℕ
reason_kind_of k =
    cond (nat_eq k 28262) 0 (
    cond (nat_eq k 25971) 1 (
    cond (nat_eq k 25705) 2 (
    cond (nat_eq k 26980) 3 (
    cond (nat_eq k 28275) 4 (
    cond (nat_eq k 25957) 5 (
    cond (nat_eq k 29741) 6 (
    cond (nat_eq k 28526) 7 (
    cond (nat_eq k 25133) 8 (
    cond (nat_eq k 29284) 9 (
    cond (nat_eq k 26157) 10 (11)))))))))))

reason-tells : (r : Reason) → reason_kind_of (letters (reason_text r)) ≡ reason_kind r
unfolding letters reason_kind_of
reason-tells NoFile = refl
reason-tells Exists = refl
reason-tells (Denied rule) = refl
reason-tells Inodes = refl
reason-tells NoSpace = refl
reason-tells Extents = refl
reason-tells TooBig = refl
reason-tells (OpenBy process fd) = refl
reason-tells BadFd = refl
reason-tells ReadOnly = refl
reason-tells FdsFull = refl
reason-tells (KernelOpen process) = refl

reason-cases : (r q : Reason) → reason_kind r ≡ reason_kind q → reason_text r ≡ reason_text q → r ≡ q
reason-cases NoFile NoFile kind same = refl
reason-cases Exists Exists kind same = refl
reason-cases (Denied m) (Denied n) kind same = ap Denied (same-number (codes "denied ") m n same)
reason-cases Inodes Inodes kind same = refl
reason-cases NoSpace NoSpace kind same = refl
reason-cases Extents Extents kind same = refl
reason-cases TooBig TooBig kind same = refl
reason-cases (OpenBy p m) (OpenBy q n) kind same =
    let both = front_number-unique p q (number_text m) (number_text n)
    (append_cancel_left (codes "open-by ") (before (number_text p) (number_text m)) (before (number_text q) (number_text n)) same) in
    cc (both.0, number-injective m n both.1)
reason-cases BadFd BadFd kind same = refl
reason-cases ReadOnly ReadOnly kind same = refl
reason-cases FdsFull FdsFull kind same = refl
reason-cases (KernelOpen m) (KernelOpen n) kind same = ap KernelOpen (same-number (codes "kernel-open ") m n same)
reason-cases r q kind same = absurd (omega (arith, kind))

reason-injective : (r q : Reason) → reason_text r ≡ reason_text q → r ≡ q
reason-injective r q same =
    reason-cases r q (sym (reason-tells r) ∙ ap (λ (t : List ℕ). reason_kind_of (letters t)) same ∙ reason-tells q) same

reason-one_line : (r : Reason) → has_byte LF (reason_text r) ≡ false
reason-one_line (Denied rule) = number-has_no LF (omega arith) rule
reason-one_line (OpenBy process fd) =
    append-has_no LF (number_text process) (SPACE ∷ number_text fd) (number-has_no LF (omega arith) process) (number-has_no LF (omega arith) fd)
reason-one_line (KernelOpen process) = number-has_no LF (omega arith) process
reason-one_line NoFile = refl
reason-one_line Exists = refl
reason-one_line Inodes = refl
reason-one_line NoSpace = refl
reason-one_line Extents = refl
reason-one_line TooBig = refl
reason-one_line BadFd = refl
reason-one_line ReadOnly = refl
reason-one_line FdsFull = refl

-- why a call is refused
pub reason-line : IsLine reason_text IsReason
reason-line = record { one_line = λ r _. reason-one_line r; injective = λ r q _ _ same. reason-injective r q same }
