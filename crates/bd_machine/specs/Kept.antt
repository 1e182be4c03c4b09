-- The state that the parts of a machine over tables for one thread show, and what always holds of them.
use Rattle.std.specs.Prelude.{ℕ, List, [], map, cond, slice_index_or, None}
use Rattle.std.specs.Option.{option_map_or}
use Rattle.std.specs.List.{enumerate_from}
use Rattle.bd_base.specs.declared.journal.At.{At}
use Rattle.bd_base.specs.declared.script.Call.{Call}
use Rattle.bd_base.specs.declared.script.Process.{Process as ScriptProcess}
use Rattle.bd_base.specs.declared.script.Script.{Script}
use Rattle.bd_entry.specs.declared.entry.Entry.{Entry}
use Rattle.bd_entry.specs.Calls.{call_at, entries_of, is_ended_by}
use Rattle.bd_kernel.specs.Sights.{store_of}
use Rattle.bd_machine.specs.declared.parts.Parts.{Parts}
use Rattle.bd_machine.specs.declared.process.Process.{Process}
use Rattle.bd_machine.specs.Shows.{PlainParts, phase_of, progress_shown}
use Rattle.bd_machine.specs.Turns.{IsAt}
use Rattle.bd_tables.specs.declared.plain.PlainPass.{PlainPass}
use Rattle.bd_tables.specs.declared.sides.Tables as sides
use Rattle.bd_tables.specs.Plain.{tables_of}
use Rattle.bd_turns.specs.State.{State}

-- the entries of a process's running call, none once they end it
abbrev pub work_shown : Script → List Entry → ℕ → ℕ → List Entry
work_shown script journal process number =
    let at : At = record { process = process; call = number } in
    let entries = entries_of at journal in
    option_map_or (λ (call : Call). cond (is_ended_by call entries) [] entries) (call_at script at) []

-- the state that the parts of a machine show
abbrev pub state_shown : {M : Type 0} → Script → PlainParts M → State
state_shown script x =
    record {
      script = script;
      store =
          store_of (record { total = x.disk.total; files = x.disk.files }) x.disk.rows
          (map (λ (p : ScriptProcess). p.uid) script.processes) x.disk.bytes
          (map (λ (y : ℕ × Process PlainPass). work_shown script x.log.entries y.0 y.1.ended)
          (enumerate_from 0 x.processes.items));
      journal = x.log.entries;
      tables = tables_of x.tables;
      processes =
          map
          (λ (y : ℕ × Process PlainPass).
          progress_shown (slice_index_or x.disk.held y.0 None) (phase_of y.1.phase) y.1)
          (enumerate_from 0 x.processes.items);
      posted = [];
    }

-- what always holds of a machine: its parts show a state to which it can come, by a script that is built
abbrev pub IsKept : {T M P : Type 0} → sides.Ghosts T P → Script → Parts T M P → Type 0
IsKept K script x = (m : State) × IsAt K script x m
