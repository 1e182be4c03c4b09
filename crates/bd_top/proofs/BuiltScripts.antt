-- Scripts of which all calls are built.
use Rattle.std.proofs.Common.{◌≡◌, ℕ, ◌+◌, ◌<◌, ◌≤◌, Bool, true, false, not, List, [], ◌∷◌, drop, length, position, slice_index_or, Option, None, Some, sym, ap, ◌∙◌, refl, subst}
use Rattle.std.specs.Prelude.{All, is_some}
use Rattle.std.specs.List.{list_any}
use Rattle.std.specs.Option.{option_map, option_or}
use Rattle.std.proofs.lemmas.Bool.{false≢true}
use Rattle.std.proofs.lemmas.List.{drop_all, drop_more}
use Rattle.std.proofs.lemmas.List.Quantifiers.{position-Some}
use Rattle.std.proofs.lemmas.List.Elements.{All-cons, All-get_or, All-nil}
use Rattle.std.proofs.lemmas.Option.{none-some}
use Rattle.bd_base.specs.declared.limits.TheConstants.{CALLS}
use Rattle.bd_base.specs.declared.script.Call.{Call}
use Rattle.bd_base.specs.declared.script.Call.TheVariants.{Size}
use Rattle.bd_base.specs.declared.script.Process.{Process}
use Rattle.bd_base.specs.declared.script.Script.{Script}
use Rattle.bd_base.specs.Scripts.{IsProcess}
use Rattle.bd_entry.proofs.Holders.{is_some-position}
use Rattle.bd_machine.specs.Turns.{AreBuilt, is_built}
use Rattle.bd_top.specs.Inputs.{first_unbuilt, is_unbuilt, unbuilt_from}

-- the first of some calls is built, and so are the others
first_built : (call : Call) (calls : List Call) (built : Bool) → built ≡ is_built call
    → (list_any is_unbuilt calls ≡ false → All (λ call. is_built call ≡ true) calls)
    → list_any is_unbuilt (call ∷ calls) ≡ false → All (λ call. is_built call ≡ true) (call ∷ calls)
first_built call calls true is others none =
    All-cons (λ (c : Call). is_built c ≡ true) call calls (sym is) (others (rw (sym is) at none))
first_built call calls false is others none = absurd (false≢true (sym (rw (sym is) at none)))

-- where no call is unbuilt all are built
all_built : (calls : List Call) → list_any is_unbuilt calls ≡ false → All (λ call. is_built call ≡ true) calls
all_built [] none = All-nil (λ (call : Call). is_built call ≡ true)
all_built (call ∷ calls) none = first_built call calls (is_built call) refl (all_built calls) none

-- where a search finds no unbuilt call, all are built
calls_built : (calls : List Call) → position is_unbuilt calls ≡ None → All (λ call. is_built call ≡ true) calls
calls_built calls none = all_built calls (sym (is_some-position is_unbuilt calls) ∙ ap is_some none)

-- the calls of a process and of those after it
abbrev AllBuilt : List Process → Type 0
AllBuilt processes = All (λ (p : Process). All (λ call. is_built call ≡ true) p.calls) processes

first_process : (line : ℕ) (p : Process) (processes : List Process) (first : Option ℕ) → position is_unbuilt p.calls ≡ first
    → (unbuilt_from (line + 1 + length p.calls) processes ≡ None → AllBuilt processes)
    → option_or (option_map (λ call. line + 1 + call) first) (unbuilt_from (line + 1 + length p.calls) processes) ≡ None
    → AllBuilt (p ∷ processes)
first_process line p processes None is others none =
    All-cons (λ (q : Process). All (λ call. is_built call ≡ true) q.calls) p processes (calls_built p.calls is) (others none)
first_process line p processes (Some call) is others none = absurd (none-some (line + 1 + call) (sym none))

processes_built : (line : ℕ) (processes : List Process) → unbuilt_from line processes ≡ None → AllBuilt processes
processes_built line [] none = All-nil (λ (q : Process). All (λ call. is_built call ≡ true) q.calls)
processes_built line (p ∷ processes) none =
    first_process line p processes (position is_unbuilt p.calls) refl (processes_built (line + 1 + length p.calls) processes) none

-- a script without an unbuilt call is one that the machine runs
pub script_built : (script : Script) → first_unbuilt script ≡ None → AreBuilt script
script_built script none = processes_built 2 script.processes none

-- ---- the search, process after process

-- a process without an unbuilt call is passed over
passed : (line : ℕ) (p : Process) (processes : List Process) → position is_unbuilt p.calls ≡ None
    → unbuilt_from line (p ∷ processes) ≡ unbuilt_from (line + 1 + length p.calls) processes
passed line p processes none = rw none refl

-- one with such a call ends the search
found : (line call : ℕ) (p : Process) (processes : List Process) → position is_unbuilt p.calls ≡ Some call
    → unbuilt_from line (p ∷ processes) ≡ Some (line + 1 + call)
found line call p processes some = rw some refl

-- the same of the process of a number
module _ (processes : List Process) (line index : ℕ) (p : Process) (there : index < length processes)
    (is : p ≡ slice_index_or processes index p) where
  rest : drop index processes ≡ p ∷ drop (index + 1) processes
  rest = drop_more processes index p there ∙ ap (λ (q : Process). q ∷ drop (index + 1) processes) (sym is)

  pub passed_at : position is_unbuilt p.calls ≡ None
      → unbuilt_from line (drop index processes) ≡ unbuilt_from (line + 1 + length p.calls) (drop (index + 1) processes)
  passed_at none = ap (unbuilt_from line) rest ∙ passed line p (drop (index + 1) processes) none

  pub found_at : (call : ℕ) → position is_unbuilt p.calls ≡ Some call → unbuilt_from line (drop index processes) ≡ Some (line + 1 + call)
  found_at call some = ap (unbuilt_from line) rest ∙ found line call p (drop (index + 1) processes) some

  -- a process within the limits has at most so many calls
  pub few_at : All IsProcess processes → length p.calls ≤ CALLS
  few_at all =
      let here : IsProcess p = subst IsProcess (sym is) (All-get_or IsProcess processes index p there all) in here.count

-- after all processes nothing is found
pub none_past : (processes : List Process) (line index : ℕ) → length processes ≤ index → unbuilt_from line (drop index processes) ≡ None
none_past processes line index past = ap (unbuilt_from line) (drop_all index processes past)

-- a call that is found is one of them
pub within : (calls : List Call) (call : ℕ) → position is_unbuilt calls ≡ Some call → call < length calls
within calls call some = (position-Some is_unbuilt calls call (Size 0) some).0
