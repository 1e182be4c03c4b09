-- The lines of a script are good, each after those before it.
use Rattle.std.specs.Prelude.{All}
use Rattle.std.specs.List.{flat_map}
use Rattle.std.proofs.Common.{◌≡◌, ◌+◌, ◌≤◌, List, [], ◌∷◌, ◌++◌, length, map, refl, ap, ◌∙◌, arith}
use Rattle.std.proofs.lemmas.List.Elements.{All-head, All-tail}
use Rattle.bd_base.specs.declared.limits.TheConstants.{CALLS, PROCESSES}
use Rattle.bd_base.specs.declared.script.Call.{Call}
use Rattle.bd_base.specs.declared.script.Call.TheVariants.{Enter, Create, Read, Write, Truncate, Unlink, Size, Map, Close, RawRead, RawWrite}
use Rattle.bd_base.specs.declared.script.Process.{Process}
use Rattle.bd_script.specs.Rules.{Counts, HasActors, HasFields, HasPlace, IsForm, IsInOrder, IsInRange, last_calls, turns_written}
use Rattle.bd_base.specs.Scripts.{IsCall, IsProcess}
use Rattle.bd_script.specs.Texts.{CallForm, Form, ProcForm, ScheduleForm, process_lines}

-- a line that meets all rules after lines with these counts
pub record IsGood (c : Counts) (f : Form) : Type 0 where
  pub is_form : IsForm f
  pub in_range : IsInRange f
  pub in_order : IsInOrder c f
  pub has_place : HasPlace c f
  pub has_actors : HasActors c f

-- the counts with one more line
abbrev pub count : Counts → Form → Counts
count c (ProcForm uid) = record { processes = c.processes + 1; calls = 0; schedules = c.schedules; turns = c.turns }
count c (CallForm call) = record { processes = c.processes; calls = c.calls + 1; schedules = c.schedules; turns = c.turns }
count c (ScheduleForm items) = record { processes = c.processes; calls = c.calls; schedules = c.schedules + 1; turns = c.turns + turns_written items }

abbrev pub after : Counts → List Form → Counts
after c [] = c
after c (f ∷ fs) = after (count c f) fs

abbrev pub AreGood : Counts → List Form → Type 0
AreGood c [] = Unit {0}
AreGood c (f ∷ fs) = IsGood c f × AreGood (count c f) fs

pub good-append : (c : Counts) (a b : List Form) → AreGood c a → AreGood (after c a) b → AreGood c (a ++ b)
good-append c [] b good_a good_b = good_b
good-append c (f ∷ a) b good_a good_b = (good_a.0, good-append (count c f) a b good_a.1 good_b)

-- a line among good ones
pub good-at : (c : Counts) (a : List Form) (f : Form) (b : List Form) → AreGood c (a ++ f ∷ b) → IsGood (after c a) f
good-at c [] f b good = good.0
good-at c (g ∷ a) f b good = good-at (count c g) a f b good.1

pub after-append : (c : Counts) (a b : List Form) → after c (a ++ b) ≡ after (after c a) b
after-append c [] b = refl
after-append c (f ∷ a) b = after-append (count c f) a b

-- a call in range has its fields
call-fields : (call : Call) → IsCall call → HasFields call
call-fields (Enter name mode how) is = is
call-fields (Create name perms) is = is.0
call-fields (Read fd off len) is = tt
call-fields (Write fd off bytes) is = (is.2.0, is.2.1)
call-fields (Truncate fd size) is = tt
call-fields (Unlink name) is = is
call-fields (Size fd) is = tt
call-fields (Map fd) is = tt
call-fields (Close fd) is = tt
call-fields (RawRead vba range) is = omega (arith, is.1)
call-fields (RawWrite vba lo bytes) is = (is.2.0, is.2.1)

good-calls : (c : Counts) (calls : List Call) → 1 ≤ c.processes → c.schedules ≡ 0 → c.calls + length calls ≤ CALLS → All IsCall calls
    → AreGood c
    (map CallForm calls)
good-calls c [] some none few are = tt
good-calls c (call ∷ calls) some none few are = (
  record {
    is_form = call-fields call (All-head IsCall call calls are);
    in_range = All-head IsCall call calls are;
    in_order =
        (some, none);
    has_place = omega (arith, few);
    has_actors = tt;
  },
  good-calls (count c (CallForm call)) calls some none (omega (arith, few)) (All-tail IsCall call calls are),
)

after-calls : (c : Counts) (calls : List Call) →
    let d = after c (map CallForm calls) in (d.processes ≡ c.processes) × (d.calls ≡ c.calls + length calls) × (d.schedules ≡ c.schedules)
    × (d.turns ≡ c.turns)
after-calls c [] = (refl, omega arith, refl, refl)
after-calls c (call ∷ calls) = let more = after-calls (count c (CallForm call)) calls in (more.0, omega (arith, more.1), more.2, more.3)

pub good-processes : (c : Counts) (ps : List Process) → c.schedules ≡ 0 → c.processes + length ps ≤ PROCESSES → All IsProcess ps → AreGood c
    (flat_map process_lines ps)
good-processes c [] none few are = tt
good-processes c (p ∷ ps) none few are =
    let one : Counts = count c (ProcForm p.uid) in
    let is : IsProcess p = All-head IsProcess p ps are in
    let calls = after-calls one p.calls in (
      record { is_form = tt; in_range = is.uid; in_order = none; has_place = omega (arith, few); has_actors = tt },
      good-append one (map CallForm p.calls) (flat_map process_lines ps) (good-calls one p.calls (omega arith) none (omega (arith, is.count)) is.calls)
          (good-processes (after one (map CallForm p.calls)) ps (calls.2 ∙ none) (omega (arith, few, calls.0)) (All-tail IsProcess p ps are)),
    )

pub after-processes : (c : Counts) (ps : List Process) →
    let d = after c (flat_map process_lines ps) in (d.processes ≡ c.processes + length ps) × (d.schedules ≡ c.schedules) × (d.turns ≡ c.turns)
after-processes c [] = (omega arith, refl, refl)
after-processes c (p ∷ ps) =
    let one : Counts = count c (ProcForm p.uid) in
    let calls = after-calls one p.calls in
    let more = after-processes (after one (map CallForm p.calls)) ps in
    let same = after-append one (map CallForm p.calls) (flat_map process_lines ps) in (
      ap (λ (d : Counts). d.processes) same ∙ more.0 ∙ omega (arith, calls.0),
      ap (λ (d : Counts). d.schedules) same ∙ more.1 ∙ calls.2,
      ap
          (λ (d : Counts). d.turns) same ∙ more.2 ∙ calls.3,
    )

pub after-last : (c : Counts) (p : Process) (ps : List Process) → (after c (flat_map process_lines (p ∷ ps))).calls ≡ last_calls (p ∷ ps)
after-last c p [] =
    let one : Counts = count c (ProcForm p.uid) in
    let calls = after-calls one p.calls in
    ap (λ (d : Counts). d.calls) (after-append one (map CallForm p.calls) []) ∙ calls.1 ∙ omega arith
after-last c p (q ∷ ps) =
    let one : Counts = count c (ProcForm p.uid) in
    ap (λ (d : Counts). d.calls) (after-append one (map CallForm p.calls) (flat_map process_lines (q ∷ ps))) ∙ after-last
    (after one (map CallForm p.calls)) q ps
