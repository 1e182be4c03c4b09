-- The line of a form is one line, and that of one form at most.
use Rattle.std.specs.Prelude.{codes}
use Rattle.std.proofs.Common.{◌≡◌, ℕ, ◌-◌, false, List, ap, arith}
use Rattle.bd_base.specs.declared.script.Call.TheVariants.{Enter, Create, Read, Write, Truncate, Unlink, Size, Map, Close, RawRead, RawWrite}
use Rattle.bd_base.specs.declared.script.How.{How}
use Rattle.bd_base.specs.declared.script.Mode.{Mode}
use Rattle.bd_blocks.specs.Texts.{has_byte}
use Rattle.bd_blocks.specs.declared.text.TheConstants.{LF}
use Rattle.bd_base.proofs.Ranges.{bounds-same}
use Rattle.bd_blocks.proofs.NumberTexts.{same-number}
use Rattle.bd_blocks.proofs.Spellings.{name-field, number-field}
use Rattle.bd_script.specs.Rules.{IsForm}
use Rattle.bd_script.specs.Texts.{CallForm, Form, ProcForm, ScheduleForm, Written, form_text}
use Rattle.bd_script.proofs.LineKinds.{items-line, named-line, opening-line, placed-line, three-line, two-line}
use Rattle.bd_script.proofs.Lifts.{same_at}
use Rattle.std.proofs.lemmas.List.{append_cancel_left}

-- a line of a form is one line
pub form-has_no_end : (f : Form) → IsForm f → has_byte LF (form_text f) ≡ false
form-has_no_end (ProcForm uid) is = number-field.line.one_line uid tt
form-has_no_end (CallForm (Enter name mode how)) is = opening-line.one_line (name, (mode, how)) (is, (tt, tt))
form-has_no_end (CallForm (Create name perms)) is = named-line.one_line (name, perms) (is, tt)
form-has_no_end (CallForm (Read fd off len)) is = three-line.one_line (fd, (off, len)) (tt, (tt, tt))
form-has_no_end (CallForm (Write fd off bytes)) is = placed-line.one_line (fd, (off, bytes)) (tt, (tt, is.0))
form-has_no_end (CallForm (Truncate fd size)) is = two-line.one_line (fd, size) (tt, tt)
form-has_no_end (CallForm (Unlink name)) is = name-field.line.one_line name is
form-has_no_end (CallForm (Size fd)) is = number-field.line.one_line fd tt
form-has_no_end (CallForm (Map fd)) is = number-field.line.one_line fd tt
form-has_no_end (CallForm (Close fd)) is = number-field.line.one_line fd tt
form-has_no_end (CallForm (RawRead vba range)) is =
    three-line.one_line (vba, (range.lo, range.hi - range.lo)) (tt, (tt, tt))
form-has_no_end (CallForm (RawWrite vba lo bytes)) is = placed-line.one_line (vba, (lo, bytes)) (tt, (tt, is.0))
form-has_no_end (ScheduleForm items) is = items-line.one_line items is

-- the forms of one line are the same
pub form-unique : (f g : Form) → IsForm f → IsForm g → form_text f ≡ form_text g → f ≡ g
form-unique (ProcForm a) (ProcForm b) is_f is_g same = cc (same-number (codes "proc ") a b same)
form-unique (CallForm (Size a)) (CallForm (Size b)) is_f is_g same = cc (same-number (codes "size ") a b same)
form-unique (CallForm (Map a)) (CallForm (Map b)) is_f is_g same = cc (same-number (codes "map ") a b same)
form-unique (CallForm (Close a)) (CallForm (Close b)) is_f is_g same = cc (same-number (codes "close ") a b same)
form-unique (CallForm (Unlink a)) (CallForm (Unlink b)) is_f is_g same = cc (append_cancel_left (codes "unlink ") a b same)
form-unique (CallForm (Truncate a x)) (CallForm (Truncate b y)) is_f is_g same =
    ap (λ (p : ℕ × ℕ). CallForm (Truncate p.0 p.1))
    (two-line.injective (a, x) (b, y) (tt, tt) (tt, tt) (append_cancel_left (codes "truncate ") _ _ same))
form-unique (CallForm (Create a x)) (CallForm (Create b y)) is_f is_g same =
    ap (λ (p : List ℕ × ℕ). CallForm (Create p.0 p.1))
    (named-line.injective (a, x) (b, y) (is_f, tt) (is_g, tt) (append_cancel_left (codes "create ") _ _ same))
form-unique (CallForm (Enter a m h)) (CallForm (Enter b n k)) is_f is_g same =
    ap (λ (p : List ℕ × (Mode × How)). CallForm (Enter p.0 p.1.0 p.1.1))
    (opening-line.injective (a, (m, h)) (b, (n, k)) (is_f, (tt, tt)) (is_g, (tt, tt)) (append_cancel_left (codes "open ") _ _ same))
form-unique (CallForm (Read a x u)) (CallForm (Read b y v)) is_f is_g same =
    ap (λ (p : ℕ × (ℕ × ℕ)). CallForm (Read p.0 p.1.0 p.1.1))
    (three-line.injective (a, (x, u)) (b, (y, v)) (tt, (tt, tt)) (tt, (tt, tt)) (append_cancel_left (codes "read ") _ _ same))
form-unique (CallForm (RawRead a r)) (CallForm (RawRead b q)) is_f is_g same =
    let whole = three-line.injective (a, (r.lo, r.hi - r.lo)) (b, (q.lo, q.hi - q.lo)) (tt, (tt, tt)) (tt, (tt, tt))
    (append_cancel_left (codes "raw-read ") _ _ same) in
    let vba : a ≡ b = ap (λ (p : ℕ × (ℕ × ℕ)). p.0) whole in
    let lo : r.lo ≡ q.lo = ap (λ (p : ℕ × (ℕ × ℕ)). p.1.0) whole in
    let count : r.hi - r.lo ≡ q.hi - q.lo = ap (λ (p : ℕ × (ℕ × ℕ)). p.1.1) whole in
    cc (vba, bounds-same r q lo (omega (arith, is_f, is_g, count, lo)))
form-unique (CallForm (Write a x u)) (CallForm (Write b y v)) is_f is_g same =
    ap (λ (p : ℕ × (ℕ × List ℕ)). CallForm (Write p.0 p.1.0 p.1.1))
    (placed-line.injective (a, (x, u)) (b, (y, v)) (tt, (tt, is_f.0)) (tt, (tt, is_g.0)) (append_cancel_left (codes "write ") _ _ same))
form-unique (CallForm (RawWrite a x u)) (CallForm (RawWrite b y v)) is_f is_g same =
    ap (λ (p : ℕ × (ℕ × List ℕ)). CallForm (RawWrite p.0 p.1.0 p.1.1))
    (placed-line.injective (a, (x, u)) (b, (y, v)) (tt, (tt, is_f.0)) (tt, (tt, is_g.0)) (append_cancel_left (codes "raw-write ") _ _ same))
form-unique (ScheduleForm ws) (ScheduleForm vs) is_f is_g same =
    ap (λ (items : List Written). ScheduleForm items)
    (items-line.injective ws vs is_f is_g (append_cancel_left (codes "schedule ") _ _ same))
form-unique (ProcForm a) (CallForm (Size b)) is_f is_g same =
    absurd (omega (arith, same_at 0 _ _ same, same_at 1 _ _ same, same_at 4 _ _ same))
form-unique (ScheduleForm ws) (CallForm (Size b)) is_f is_g same =
    absurd (omega (arith, same_at 0 _ _ same, same_at 1 _ _ same, same_at 4 _ _ same))
form-unique f g is_f is_g same = absurd (omega (arith, same_at 0 _ _ same, same_at 1 _ _ same, same_at 4 _ _ same))
