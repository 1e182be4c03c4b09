-- A script is read back from its lines.
use Rattle.std.specs.Prelude.{cond, nat_eq}
use Rattle.std.specs.List.{flat_map}
use Rattle.std.proofs.Common.{◌≡◌, ℕ, Bool, true, false, List, [], ◌∷◌, ◌++◌, map, refl, sym, ap, ◌∙◌, append_assoc, arith}
use Rattle.std.proofs.lemmas.Bool.Decides.{nat_tests}
use Rattle.bd_base.specs.declared.script.Call.{Call}
use Rattle.bd_base.specs.declared.script.Item.{Item}
use Rattle.bd_base.specs.declared.script.Process.{Process}
use Rattle.bd_base.specs.declared.script.ScheduleLine.{ScheduleLine}
use Rattle.bd_base.specs.declared.script.Script.{Script}
use Rattle.bd_script.specs.Texts.{Alone, CallForm, Form, ProcForm, ScheduleForm, Times, Written, process_lines, schedule_line, script_lines, written_item}

-- the calls before the next process or schedule line
abbrev calls_front : List Form → List Call
calls_front [] = []
calls_front (ProcForm uid ∷ fs) = []
calls_front (CallForm call ∷ fs) = call ∷ calls_front fs
calls_front (ScheduleForm items ∷ fs) = []

abbrev processes_back : List Form → List Process
processes_back [] = []
processes_back (ProcForm uid ∷ fs) = record { uid = uid; calls = calls_front fs } ∷ processes_back fs
processes_back (CallForm call ∷ fs) = processes_back fs
processes_back (ScheduleForm items ∷ fs) = processes_back fs

abbrev item_back : Written → Item
item_back (Alone actor) = record { actor = actor; turns = 1 }
item_back (Times actor turns) = record { actor = actor; turns = turns }

abbrev schedule_back : List Form → List ScheduleLine
schedule_back [] = []
schedule_back (ProcForm uid ∷ fs) = schedule_back fs
schedule_back (CallForm call ∷ fs) = schedule_back fs
schedule_back (ScheduleForm items ∷ fs) = record { items = map item_back items } ∷ schedule_back fs

item-back : (i : Item) (b : Bool) → nat_eq i.turns 1 ≡ b → item_back (cond b (Alone i.actor) (Times i.actor i.turns)) ≡ i
item-back i true same = let one : 1 ≡ i.turns = grind (arith, nat_tests, same) in ap (λ (n : ℕ). let j : Item = record { actor = i.actor; turns = n }
    in j) one
item-back i false same = refl

items-back : (items : List Item) → map item_back (map written_item items) ≡ items
items-back [] = refl
items-back (i ∷ items) =
    ap (λ (j : Item). j ∷ map item_back (map written_item items)) (item-back i (nat_eq i.turns 1) refl)
    ∙ ap (λ (l : List Item). i ∷ l) (items-back items)

calls-back : (calls : List Call) (rest : List Form) → calls_front rest ≡ [] → calls_front (map CallForm calls ++ rest) ≡ calls
calls-back [] rest none = none
calls-back (call ∷ calls) rest none = ap (λ (l : List Call). call ∷ l) (calls-back calls rest none)

past-calls : (calls : List Call) (rest : List Form) → processes_back (map CallForm calls ++ rest) ≡ processes_back rest
past-calls [] rest = refl
past-calls (call ∷ calls) rest = past-calls calls rest

no-calls : (ps : List Process) (ls : List ScheduleLine) → calls_front (flat_map process_lines ps ++ map schedule_line ls) ≡ []
no-calls [] [] = refl
no-calls [] (l ∷ ls) = refl
no-calls (p ∷ ps) ls = refl

no-processes : (ls : List ScheduleLine) → processes_back (map schedule_line ls) ≡ []
no-processes [] = refl
no-processes (l ∷ ls) = no-processes ls

processes-back : (ps : List Process) (ls : List ScheduleLine) → processes_back (flat_map process_lines ps ++ map schedule_line ls) ≡ ps
processes-back [] ls = no-processes ls
processes-back (p ∷ ps) ls =
    let rest : List Form = flat_map process_lines ps ++ map schedule_line ls in
    let lines = append_assoc (map CallForm p.calls) (flat_map process_lines ps) (map schedule_line ls) in
    let calls = ap calls_front lines ∙ calls-back p.calls rest (no-calls ps ls) in
    let more = ap processes_back lines ∙ past-calls p.calls rest ∙ processes-back ps ls in
    ap (λ (l : List Call). let q : Process = record { uid = p.uid; calls = l } in q ∷ processes_back
    ((map CallForm p.calls ++ flat_map process_lines ps) ++ map schedule_line ls)) calls
    ∙ ap (λ (l : List Process). p ∷ l) more

past-processes : (calls : List Call) (rest : List Form) → schedule_back (map CallForm calls ++ rest) ≡ schedule_back rest
past-processes [] rest = refl
past-processes (call ∷ calls) rest = past-processes calls rest

lines-back : (ls : List ScheduleLine) → schedule_back (map schedule_line ls) ≡ ls
lines-back [] = refl
lines-back (l ∷ ls) =
    ap (λ (items : List Item). let k : ScheduleLine = record { items = items } in k ∷ schedule_back (map schedule_line ls)) (items-back l.items)
    ∙ ap (λ (ks : List ScheduleLine). l ∷ ks) (lines-back ls)

schedule-back : (ps : List Process) (ls : List ScheduleLine) → schedule_back (flat_map process_lines ps ++ map schedule_line ls) ≡ ls
schedule-back [] ls = lines-back ls
schedule-back (p ∷ ps) ls =
    ap schedule_back (append_assoc (map CallForm p.calls) (flat_map process_lines ps) (map schedule_line ls))
    ∙ past-processes p.calls (flat_map process_lines ps ++ map schedule_line ls) ∙ schedule-back ps ls

-- scripts of the same lines are the same
pub lines-injective : (s t : Script) → script_lines s ≡ script_lines t → s ≡ t
lines-injective s t same =
    let processes = sym (processes-back s.processes s.schedule) ∙ ap processes_back same ∙ processes-back t.processes t.schedule in
    let schedule = sym (schedule-back s.processes s.schedule) ∙ ap schedule_back same ∙ schedule-back t.processes t.schedule in
    ap (λ (l : List Process). let r : Script = record { processes = l; schedule = s.schedule } in r) processes
    ∙ ap (λ (l : List ScheduleLine). let r : Script = record { processes = t.processes; schedule = l } in r) schedule
