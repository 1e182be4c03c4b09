-- What is known of a process as its running call does something.
use Rattle.std.proofs.Common.{◌≡◌, ℕ, ◌<◌, true, cond, List, length, Option, None, Some, sym, ap, ◌∙◌, subst, arith, get_or}
use Rattle.std.specs.Prelude.{is_some}
use Rattle.std.proofs.lemmas.Option.{same_Some}
use Rattle.bd_base.specs.declared.journal.At.{At}
use Rattle.bd_base.specs.declared.script.Call.{Call}
use Rattle.bd_base.specs.declared.script.Script.{Script}
use Rattle.bd_base.specs.declared.volume.Volume.{Volume}
use Rattle.bd_entry.specs.declared.act.Act.{Act}
use Rattle.bd_entry.specs.declared.entry.Entry.{Entry}
use Rattle.bd_entry.specs.Calls.{Place, call_at, fd_of, fd_of_call}
use Rattle.bd_entry.specs.Refusals.{file_of}
use Rattle.bd_kernel.specs.Turns as kernel
use Rattle.bd_kernel.specs.Turns.{AreEntriesOf}
use Rattle.bd_machine.specs.declared.parts.Parts.{Parts}
use Rattle.bd_machine.specs.declared.process.Process.{Process}
use Rattle.bd_machine.specs.Logs.{LogState}
use Rattle.bd_machine.specs.Turns.{HasBegun, IsAt, IsHeldAfter, IsNextAct, process_in}
use Rattle.bd_machine.proofs.ProcessorBegins.{begun_there, called_at, process_read}
use Rattle.bd_machine.proofs.ProcessorCommands.{RunsHere, kept}
use Rattle.bd_machine.proofs.ProcessorFacts.{log_step}
use Rattle.bd_machine.proofs.ProcessorNext.{ActsHere, acts_here, place_for}
use Rattle.bd_turns.specs.declared.turn.Row.{Row}
use Rattle.bd_turns.specs.Reached.{IsReached}
use Rattle.bd_turns.specs.State.{State}
use Rattle.bd_turns.specs.Turns.{holds_after}
use Rattle.bd_tables.specs.declared.sides.Tables as sides

-- a process of the parts, of whose running call this is kept and which does this next
pub record Ready {T M P : Type 0} (K : sides.Ghosts T P) (script : Script) (x : Parts T M P) (m : State) (process : ℕ) (y : Process P)
    (c : kernel.Progress) (act : Act) :
    Type 0 where
  pub v : Volume
  pub reached : IsReached v m
  pub acts : ActsHere m process act
  pub here : RunsHere K script x m (place_for m process acts.call acts.before) y c

-- so it is once there is room in the log
pub ready_for : {T M P : Type 0} {K : sides.Ghosts T P} (script : Script) (x : Parts T M P) (m : State) (process i : ℕ) (y : Process P)
    (c : kernel.Progress) (act : Act) (log : LogState) →
    IsAt K script x m → HasBegun x process → IsNextAct m process act → i ≡ process → y ≡ get_or x.processes.items i y → y.call ≡ Some c →
    log.entries ≡ x.log.entries → Ready K script (record x { log = log }) m process y c act
ready_for script x m process i y c act log is begun next same read call entries =
    let acts = acts_here m process act next in
    record {
      v = is.reached.0;
      reached = is.reached.1;
      acts = acts;
      here = record {
        shows = log_step script x m log is.shows entries;
        runs = acts.runs;
        there = process_read x process i y same (begun_there x process begun) read;
        call_is = call;
      };
    }

-- the process that is read has begun its call
pub call_begun : {T M P : Type 0} (x : Parts T M P) (process i : ℕ) (y : Process P) → HasBegun x process → i ≡ process → y ≡ get_or x.processes.items i y →
    is_some (y.call) ≡ true
call_begun {P = P} x process i y begun same read =
    let there = process_read x process i y same (begun_there x process begun) read in
    subst (λ (z : Process P). is_some z.call ≡ true) (same_Some begun.it y (sym begun.there ∙ there)) begun.begun

module _ {T M P : Type 0} {K : sides.Ghosts T P} (script : Script) (x : Parts T M P) (m : State) (process : ℕ) (y : Process P)
    (c : kernel.Progress) (act : Act) (r : Ready K script x m process y c act) where
  -- the place of its running call
  abbrev pub place : Place
  place = place_for m process r.acts.call r.acts.before

  -- the call of the script that runs
  pub call_of_script : (at : At) → at ≡ record { process = process; call = y.ended } → (call_at script at ≡ Some place.call) × (at ≡ place.at)
  call_of_script at is = called_at script x m process y place at r.here.shows r.here.there r.here.runs is

  -- its descriptor
  pub fd_kept : (fd : Option ℕ) → ((before : List Entry) → AreEntriesOf c before → fd ≡ fd_of_call c.call before) → fd ≡ fd_of place
  fd_kept fd is =
      let mine = kept script x m place y c r.here in
      is place.before mine.entries ∙ ap (λ (call : Call). fd_of_call call place.before) mine.call

  -- the file that it holds after a turn of this row
  pub hold_kept : (call : Call) (row by : Row) (held : Option ℕ) → place.call ≡ call → row ≡ by → IsHeldAfter x call process row held →
      held ≡ cond (holds_after place.call by) (file_of m.store place) None
  hold_kept call row by held same is after =
      let mine = kept script x m place y c r.here in
      let of : Call → Option ℕ = λ k. file_of m.store (record { call = k; at = place.at; before = place.before }) in
      after y c m.store place.at place.before r.here.there r.here.call_is r.here.shows.disk mine.process mine.entries
      ∙ ap (λ (k : Call). cond (holds_after k row) (of c.call) None) (sym same)
      ∙ ap (λ (q : Row). cond (holds_after place.call q) (of c.call) None) is
      ∙ ap (λ (k : Call). cond (holds_after place.call by) (of k) None) mine.call

-- the running call is one of the script, before it is read what is kept of it
pub called_next : {T M P : Type 0} {K : sides.Ghosts T P} (script : Script) (x : Parts T M P) (m : State) (process : ℕ) (act : Act) (at : At) →
    IsAt K script x m → HasBegun x process →
    IsNextAct m process act → ((y : Process P) → process_in x process ≡ Some y → at ≡ record { process = process; call = y.ended }) →
    is_some (call_at script at) ≡ true
called_next script x m process act at is begun next reads =
    let called = called_at script x m process begun.it next.place at is.shows begun.there next.running_is (reads begun.it begun.there) in
    ap (λ (o : Option Call). is_some o) called.0

-- a process that has begun a call is one of the script
pub in_script : {T M P : Type 0} {K : sides.Ghosts T P} (script : Script) (x : Parts T M P) (m : State) (process : ℕ) → IsAt K script x m →
    HasBegun x process → process < length script.processes
in_script script x m process is begun =
    let below = begun_there x process begun in
    omega (arith, below, is.shows.count)
