-- The lines with names, bytes or items: what follows their first word.
use Rattle.std.proofs.Common.{◌≡◌, ℕ, ◌<◌, ◌≤◌, List, ◌++◌, length, subst, ap, arith}
use Rattle.std.specs.Prelude.{codes, All}
use Rattle.bd_base.specs.Names.{IsName}
use Rattle.bd_base.specs.declared.limits.TheConstants.{ADDRESSES, BLOCK_SIZE, CALL_BYTES, LAST_PLACE, NAMED_FDS, PERMS}
use Rattle.bd_base.specs.declared.script.Call.TheVariants.{Enter, Create, Write, Unlink, Size, RawWrite}
use Rattle.bd_base.specs.declared.script.How.{How}
use Rattle.bd_base.specs.declared.script.Mode.{Mode}
use Rattle.bd_blocks.specs.Texts.{IsWithin, before}
use Rattle.bd_blocks.specs.Words.{mode_and_how_text}
use Rattle.bd_blocks.specs.declared.text.numbers.Within.{Within}
use Rattle.bd_script.specs.declared.fault.Fault.{Fault}
use Rattle.bd_script.proofs.Lifts.{lift, same_at}
use Rattle.bd_script.specs.declared.fields.Placed.{Placed}
use Rattle.bd_script.specs.Reading.{FitsPlaced, AreSome, RefusesLine, RefusesNamed, RefusesPlaced, named_text, placed_text}
use Rattle.bd_script.specs.Rules.{HasTurns, IsForm, IsInRange}
use Rattle.bd_script.specs.Schedules.{RefusesItems}
use Rattle.bd_script.specs.Texts.{Form, CallForm, ScheduleForm, Written, form_text, items_text}

pub open-up : (rest : List ℕ) (f : Form) → IsForm f → codes "open " ++ rest ≡ form_text f → (name : List ℕ) × (mode : Mode) × (how : How)
    × IsName name
    × (rest ≡ before name (mode_and_how_text (mode, how)))
open-up rest (CallForm (Enter name mode how)) is same = (name, mode, how, is, cc same)
open-up rest f is same = absurd (omega (arith, same_at 0 _ _ same, same_at 1 _ _ same, same_at 4 _ _ same))

pub unlink-up : (rest : List ℕ) (f : Form) → IsForm f → codes "unlink " ++ rest ≡ form_text f → IsName rest
unlink-up rest (CallForm (Unlink name)) is same = subst IsName (let text : name ≡ rest = cc same in text) is
unlink-up rest f is same = absurd (omega (arith, same_at 0 _ _ same, same_at 1 _ _ same, same_at 4 _ _ same))

create-up : (rest : List ℕ) (f : Form) → IsForm f → codes "create " ++ rest ≡ form_text f → (p : List ℕ × ℕ) × IsName p.0
    × (rest ≡ named_text p)
create-up rest (CallForm (Create name perms)) is same = ((name, perms), is, cc same)
create-up rest f is same = absurd (omega (arith, same_at 0 _ _ same, same_at 1 _ _ same, same_at 4 _ _ same))

pub create-refused : (a : Within) → ((n : ℕ) → n < PERMS → IsWithin a n) → (rest : List ℕ) (fault : Fault) → RefusesNamed a rest fault
    → RefusesLine
    (codes "create " ++ rest) fault
create-refused a fits rest fault refused =
    lift named_text (λ (p : List ℕ × ℕ). IsName p.0) (λ (p : List ℕ × ℕ). IsWithin a p.1) form_text IsForm IsInRange rest (codes "create " ++ rest)
    (create-up rest)
    (λ p is same out. (CallForm (Create p.0 p.1), is, ap (λ (l : List ℕ). codes "create " ++ l) same, λ call. out (fits p.1 call.1))) fault refused

write-up : (rest : List ℕ) (f : Form) → IsForm f → codes "write " ++ rest ≡ form_text f → (p : Placed) × AreSome p.bytes × (rest ≡ placed_text p)
write-up rest (CallForm (Write fd off bytes)) is same = (record { first = fd; second = off; bytes = bytes }, is, cc same)
write-up rest f is same = absurd (omega (arith, same_at 0 _ _ same, same_at 1 _ _ same, same_at 4 _ _ same))

pub write-refused : (a b : Within) → ((n : ℕ) → n < NAMED_FDS → IsWithin a n) → ((n : ℕ) → n ≤ LAST_PLACE → IsWithin b n) →
    (rest : List ℕ) (fault : Fault) → RefusesPlaced a b CALL_BYTES rest fault → RefusesLine (codes "write " ++ rest) fault
write-refused a b fits_a fits_b rest fault refused =
    lift placed_text (λ (p : Placed). AreSome p.bytes) (FitsPlaced a b CALL_BYTES) form_text IsForm IsInRange rest (codes "write " ++ rest)
    (write-up rest)
    (λ p is same out. (
      CallForm (Write p.first p.second p.bytes),
      is,
      ap (λ (l : List ℕ). codes "write " ++ l) same,
      λ call. out
          (fits_a p.first call.0, fits_b p.second call.1, call.2.2),
    )) fault refused

raw_write-up : (rest : List ℕ) (f : Form) → IsForm f → codes "raw-write " ++ rest ≡ form_text f → (p : Placed) × AreSome p.bytes
    × (rest ≡ placed_text p)
raw_write-up rest (CallForm (RawWrite vba lo bytes)) is same = (record { first = vba; second = lo; bytes = bytes }, is, cc same)
raw_write-up rest f is same = absurd (omega (arith, same_at 0 _ _ same, same_at 1 _ _ same, same_at 4 _ _ same))

pub raw_write-refused : (a b : Within) → ((n : ℕ) → n < ADDRESSES → IsWithin a n) → ((n : ℕ) → n < BLOCK_SIZE → IsWithin b n) →
    (rest : List ℕ) (fault : Fault) → RefusesPlaced a b BLOCK_SIZE rest fault → RefusesLine (codes "raw-write " ++ rest) fault
raw_write-refused a b fits_a fits_b rest fault refused =
    lift placed_text (λ (p : Placed). AreSome p.bytes) (FitsPlaced a b BLOCK_SIZE) form_text IsForm IsInRange rest (codes "raw-write " ++ rest)
    (raw_write-up rest)
    (λ p is same out. (
      CallForm (RawWrite p.first p.second p.bytes),
      is,
      ap (λ (l : List ℕ). codes "raw-write " ++ l) same,
      λ call. out
          (fits_a p.first call.0, fits_b p.second call.1, omega (arith, call.2.2)),
    )) fault refused

schedule-up : (rest : List ℕ) (f : Form) → IsForm f → codes "schedule " ++ rest ≡ form_text f → (items : List Written) × (1 ≤ length items)
    × (rest ≡ items_text items)
schedule-up rest (ScheduleForm items) is same = (items, is, cc same)
schedule-up rest (CallForm (Size fd)) is same = absurd (omega (arith, same_at 0 _ _ same, same_at 1 _ _ same, same_at 4 _ _ same))
schedule-up rest f is same = absurd (omega (arith, same_at 0 _ _ same, same_at 1 _ _ same, same_at 4 _ _ same))

pub schedule-refused : (rest : List ℕ) (fault : Fault) → RefusesItems rest fault → RefusesLine (codes "schedule " ++ rest) fault
schedule-refused rest fault refused =
    lift items_text (λ (items : List Written). 1 ≤ length items) (λ (items : List Written). All HasTurns items) form_text IsForm IsInRange rest
    (codes "schedule " ++ rest) (schedule-up rest)
    (λ items some same out. (ScheduleForm items, some, ap (λ (l : List ℕ). codes "schedule " ++ l) same, out)) fault refused
