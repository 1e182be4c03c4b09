-- What a running call does next is read off the disk and what is kept of the call.
use Rattle.std.proofs.Common.{◌≡◌, ℕ, List, Option, None, Some, refl, sym, ap, ◌∙◌, subst}
use Rattle.std.proofs.lemmas.Option.{none-some}
use Rattle.bd_base.specs.declared.journal.At.{At}
use Rattle.bd_base.specs.declared.script.Call.{Call}
use Rattle.bd_base.specs.declared.script.Script.{Script}
use Rattle.bd_entry.specs.declared.act.Act.{Act}
use Rattle.bd_entry.specs.declared.entry.Entry.{Entry}
use Rattle.bd_entry.specs.Actions.{Holders, Running, next_act}
use Rattle.bd_entry.specs.Calls.{Place}
use Rattle.bd_entry.specs.Store.{Store, user_of}
use Rattle.bd_fs.specs.Files.{Files}
use Rattle.bd_kernel.specs.declared.blocker.Blocker.{Blocker}
use Rattle.bd_kernel.specs.Blockers.{blocker_in}
use Rattle.bd_kernel.specs.Disks.{DiskState, IsDiskOf, files_on, table_on}
use Rattle.bd_kernel.specs.Holders.{Table, holder_in}
use Rattle.bd_kernel.specs.Sights.{place_of, store_of}
use Rattle.bd_kernel.specs.Turns as kernel
use Rattle.bd_machine.specs.declared.parts.Parts.{Parts}
use Rattle.bd_machine.specs.declared.process.Process.{Process}
use Rattle.bd_machine.specs.Shows.{IsCallKept, Shows}
use Rattle.bd_machine.specs.Turns.{IsNextAct, IsNextBlocker, process_in}
use Rattle.bd_machine.proofs.ProcessorCommands.{RunsHere, kept}
use Rattle.bd_machine.proofs.ProcessorHolds.{holder_shown}
use Rattle.bd_turns.specs.Processors.{running_of}
use Rattle.bd_turns.specs.State.{State, holder_of, running, running_at}
use Rattle.bd_turns.proofs.RunningPlaces.{runs_at}
use Rattle.bd_tables.specs.declared.sides.Tables as sides

-- the store that a disk shows is that of its files, bytes and descriptors
pub store_shown : (d : DiskState) (s : Store) → IsDiskOf d s → store_of (files_on d) d.rows s.uids s.bytes s.work ≡ s
store_shown d s is =
    λ i. record { total = sym is.total i; uids = s.uids; files = sym is.files i; bytes = s.bytes; opens = sym is.opens i; work = s.work }

-- what holds of the next action of a call as its parts say holds of that in the state that they show
pub of_next_shown : {T M P : Type 0} {K : sides.Ghosts T P} (script : Script) (x : Parts T M P) (m : State) (p : Place) (y : Process P)
    (c : kernel.Progress) (fs : Files) (table : Table) (Holds : Option Act → Type 0) → RunsHere K script x m p y c → fs ≡ files_on x.disk →
    table ≡ table_on x.disk → kernel.OfNextAct fs table c.call c.process c.uid c.marks c.outstanding Holds →
    Holds (next_act m.store (holder_of m) (running_of m p))
of_next_shown script x m p y c fs table Holds here files rows is =
    let s : Store = store_of (files_on x.disk) x.disk.rows m.store.uids m.store.bytes m.store.work in
    let next : kernel.OfNextAct (files_on x.disk) (table_on x.disk) c.call c.process c.uid c.marks c.outstanding Holds =
    subst (λ (t : Table). kernel.OfNextAct (files_on x.disk) t c.call c.process c.uid c.marks c.outstanding Holds) rows
    (subst (λ (f : Files). kernel.OfNextAct f table c.call c.process c.uid c.marks c.outstanding Holds) files is) in
    let mine : IsCallKept m p c = kept script x m p y c here in
    let user : user_of s c.process ≡ c.uid = ap (user_of m.store) mine.process ∙ sym mine.uid in
    let store : s ≡ m.store = store_shown x.disk m.store here.shows.disk in
    let holders : holder_in x.disk.held ≡ holder_of m = sym (holder_shown script x m here.shows) in
    let kept_run : Running = record { place = place_of c.call c.process p.at.call p.before; outstanding = c.outstanding } in
    let run : kept_run ≡ running_of m p =
    λ i. record {
      place = record { call = mine.call i; at = record { process = mine.process i; call = p.at.call }; before = p.before };
      outstanding = mine.outstanding i;
    } in
    subst Holds
    (ap (λ (t : Store). next_act t (holder_in x.disk.held) kept_run) store
    ∙ ap (λ (h : Holders). next_act m.store h kept_run) holders ∙ ap (λ (r : Running). next_act m.store (holder_of m) r) run)
    (next m.store.uids m.store.bytes m.store.work user p.at.call p.before mine.entries.marks)

-- so what it does next is what it does in that state
pub next_shown : {T M P : Type 0} {K : sides.Ghosts T P} (script : Script) (x : Parts T M P) (m : State) (p : Place) (y : Process P) (c : kernel.Progress)
    (fs : Files) (table : Table)
    (answer : Option Act) → RunsHere K script x m p y c → fs ≡ files_on x.disk → table ≡ table_on x.disk → kernel.IsNextAct fs table c answer →
    answer ≡ next_act m.store (holder_of m) (running_of m p)
next_shown script x m p y c fs table answer here files rows is =
    of_next_shown script x m p y c fs table (λ act. answer ≡ act) here files rows is

-- and so is what it waits for
blocker_shown : {T M P : Type 0} {K : sides.Ghosts T P} (script : Script) (x : Parts T M P) (m : State) (p : Place) (y : Process P)
    (c : kernel.Progress) (fs : Files) (table : Table) (answer : Option Blocker) → RunsHere K script x m p y c → fs ≡ files_on x.disk →
    table ≡ table_on x.disk → kernel.IsBlocker fs table c answer → answer ≡ blocker_in (next_act m.store (holder_of m) (running_of m p))
blocker_shown script x m p y c fs table answer here files rows is =
    of_next_shown script x m p y c fs table (λ act. answer ≡ blocker_in act) here files rows is

-- the place of the running call of a process, which names the process
abbrev pub place_for : State → ℕ → Call → List Entry → Place
place_for m process call before = record { call = call; at = running_at m process; before = before }

pub place_is : (m : State) (process : ℕ) (p : Place) → running m process ≡ Some p → p ≡ place_for m process p.call p.before
place_is m process p is = ap (λ (at : At). record { call = p.call; at = at; before = p.before }) (runs_at m process p is).at_is

-- what the process does next, by that place
pub record ActsHere (m : State) (process : ℕ) (act : Act) : Type 0 where
  pub call : Call
  pub before : List Entry
  pub runs : running m process ≡ Some (place_for m process call before)
  pub next : next_act m.store (holder_of m) (running_of m (place_for m process call before)) ≡ Some act

pub acts_here : (m : State) (process : ℕ) (act : Act) → IsNextAct m process act → ActsHere m process act
acts_here m process act is =
    let same = place_is m process is.place is.running_is in
    record {
      call = is.place.call;
      before = is.place.before;
      runs = is.running_is ∙ ap Some same;
      next = subst (λ (p : Place). next_act m.store (holder_of m) (running_of m p) ≡ Some act) same is.next;
    }

-- ---- a call that was begun

-- it runs at this place, and this is kept of it
pub record Here {T M P : Type 0} (K : sides.Ghosts T P) (script : Script) (x : Parts T M P) (m : State) (process : ℕ) (y : Process P)
    (c : kernel.Progress) : Type 0 where
  pub call : Call
  pub before : List Entry
  pub here : RunsHere K script x m (place_for m process call before) y c

pub here_for : {T M P : Type 0} {K : sides.Ghosts T P} (script : Script) (x : Parts T M P) (m : State) (process : ℕ) (y : Process P) (c : kernel.Progress) →
    Shows K script x m →
    process_in x process ≡ Some y → y.call ≡ Some c → Here K script x m process y c
here_for {K = K} script x m process y c shows there begun = by (running m process) refl
  where
    by : (o : Option Place) → running m process ≡ o → Here K script x m process y c
    by None none = absurd (none-some c (sym ((shows.each process y there).none none) ∙ begun))
    by (Some p) is =
        record {
          call = p.call;
          before = p.before;
          here = record { shows = shows; runs = is ∙ ap Some (place_is m process p is); there = there; call_is = begun };
        }

-- what it waits for
pub blocker_kept : {T M P : Type 0} {K : sides.Ghosts T P} (script : Script) (x : Parts T M P) (m : State) (process : ℕ) (y : Process P)
    (c : kernel.Progress) (fs : Files) (table : Table) (answer : Option Blocker) → Shows K script x m →
    process_in x process ≡ Some y → y.call ≡ Some c → fs ≡ files_on x.disk → table ≡ table_on x.disk →
    kernel.IsBlocker fs table c answer → IsNextBlocker m process answer
blocker_kept script x m process y c fs table answer shows there begun files rows is =
    let found = here_for script x m process y c shows there begun in
    let p = place_for m process found.call found.before in
    record {
      place = p;
      running_is = found.here.runs;
      blocker_is = blocker_shown script x m p y c fs table answer found.here files rows is;
    }

-- the same where this is what it does next
pub here_acting : {T M P : Type 0} {K : sides.Ghosts T P} (script : Script) (x : Parts T M P) (m : State) (process : ℕ) (y : Process P)
    (c : kernel.Progress) (act : Act) → Shows K script x m →
    process_in x process ≡ Some y → y.call ≡ Some c → (acts : ActsHere m process act) →
    RunsHere K script x m (place_for m process acts.call acts.before) y c
here_acting script x m process y c act shows there begun acts =
    record { shows = shows; runs = acts.runs; there = there; call_is = begun }
