-- What is read of a process and of its script, and that a call which begins changes nothing that is shown.
use Rattle.std.proofs.Common.{◌≡◌, ℕ, ◌<◌, true, false, List, [], length, Option, None, Some, refl, sym, ap, ◌∙◌, subst, arith, get_or}
use Rattle.std.specs.Prelude.{slice_index_or, is_some}
use Rattle.std.proofs.lemmas.Bool.{false≢true}
use Rattle.std.proofs.lemmas.List.{get_or-map}
use Rattle.std.proofs.lemmas.Option.{same_Some, slice_get_read, slice_get_within}
use Rattle.bd_base.specs.declared.journal.At.{At}
use Rattle.bd_base.specs.declared.script.Call.{Call}
use Rattle.bd_base.specs.declared.script.Process.{Process as ScriptProcess}
use Rattle.bd_base.specs.declared.script.Script.{Script}
use Rattle.bd_base.specs.Scripts.{IsCall}
use Rattle.bd_entry.specs.Calls.{Place, call_at}
use Rattle.bd_entry.specs.Store.{user_of}
use Rattle.bd_entry.proofs.HistoryLaws.{is_call}
use Rattle.bd_entry.proofs.Slots.{some_of}
use Rattle.bd_kernel.specs.Turns as kernel
use Rattle.bd_kernel.specs.Turns.{AreEntriesOf}
use Rattle.bd_machine.specs.declared.parts.Parts.{Parts}
use Rattle.bd_machine.specs.declared.process.Process.{Process}
use Rattle.bd_machine.specs.Shows.{IsCallAt, IsCallKept, IsNotBegun, IsProcessAt, Shows}
use Rattle.bd_machine.specs.Turns.{HasBegun, IsAt, process_in}
use Rattle.bd_machine.proofs.ProcessorSteps.{same_step, with_process}
use Rattle.bd_machine.proofs.ShowingKept.{engine_of_same}
use Rattle.bd_turns.specs.State.{Progress, State, progress_of, running}
use Rattle.bd_turns.proofs.Acting.{process_within}
use Rattle.bd_turns.proofs.Cases.{running_process}
use Rattle.bd_turns.proofs.FoundElements.{slice_get-there}
use Rattle.bd_turns.proofs.RunningPlaces.{runs_at}
use Rattle.bd_tables.specs.declared.sides.Tables as sides

-- ---- what is read

-- the process at an index
pub process_read : {T M P : Type 0} (x : Parts T M P) (process i : ℕ) (y : Process P) → i ≡ process → process < length x.processes.items →
    y ≡ get_or x.processes.items i y → process_in x process ≡ Some y
process_read x process i y same within is =
    slice_get_read x.processes.items (length x.processes.items) process y refl within
    (is ∙ ap (λ (n : ℕ). get_or x.processes.items n y) same)

-- a process of the script is one of the parts
pub process_there : {T M P : Type 0} {K : sides.Ghosts T P} (script : Script) (x : Parts T M P) (m : State) (process : ℕ) → Shows K script x m →
    process < length script.processes →
    process < length x.processes.items
process_there script x m process shows within = omega (arith, within, shows.count)

-- which one it is
pub element_there : {T M P : Type 0} (x : Parts T M P) (process : ℕ) → process < length x.processes.items → (y : Process P) × (process_in x process ≡ Some y)
element_there x process within = some_of (process_in x process) (slice_get-there x.processes.items process within)

-- so is one with a running call
pub runs_there : {T M P : Type 0} {K : sides.Ghosts T P} (script : Script) (x : Parts T M P) (m : State) (process : ℕ) (p : Place) → Shows K script x m →
    running m process ≡ Some p →
    process < length x.processes.items
runs_there script x m process p shows runs =
    let within = process_within m process p runs in
    let same : length m.script.processes ≡ length script.processes = ap (λ (s : Script). length s.processes) shows.script_is in
    omega (arith, within, same, shows.count)

-- and one whose call was begun
pub begun_there : {T M P : Type 0} (x : Parts T M P) (process : ℕ) → HasBegun x process → process < length x.processes.items
begun_there x process begun = slice_get_within x.processes.items process begun.it begun.there

-- the user of a process of the script
pub user_read : {T M P : Type 0} {K : sides.Ghosts T P} (script : Script) (x : Parts T M P) (m : State) (process i : ℕ) (processes : List ScriptProcess)
    (it : ScriptProcess) →
    Shows K script x m → process < length script.processes → processes ≡ script.processes → i ≡ process → it ≡ get_or processes i it →
    user_of m.store process ≡ it.uid
user_read script x m process i processes it shows within all same is =
    ap (λ (uids : List ℕ). slice_index_or uids process 0) shows.users
    ∙ get_or-map (λ (p : ScriptProcess). p.uid) script.processes process it 0 within
    ∙ ap (λ (p : ScriptProcess). p.uid)
    (sym (is ∙ ap (λ (ps : List ScriptProcess). get_or ps i it) all ∙ ap (λ (n : ℕ). get_or script.processes n it) same))

-- ---- the running call

-- where it is in the script, as the parts say
pub called_at : {T M P : Type 0} {K : sides.Ghosts T P} (script : Script) (x : Parts T M P) (m : State) (process : ℕ) (y : Process P) (p : Place) (at : At) →
    Shows K script x m →
    process_in x process ≡ Some y → running m process ≡ Some p → at ≡ record { process = process; call = y.ended } →
    (call_at script at ≡ Some p.call) × (at ≡ p.at)
called_at script x m process y p at shows there runs is =
    let place = runs_at m process p runs in
    let ended : (progress_of m process).ended ≡ y.ended = ap (λ (g : Progress). g.ended) (shows.each process y there).progress in
    let same : at ≡ p.at = is ∙ ap (λ (n : ℕ). record { process = process; call = n }) (sym ended) ∙ sym place.at_is in
    (ap (λ (s : Script). call_at s at) (sym shows.script_is) ∙ ap (call_at m.script) same ∙ place.called, same)

-- a call of the script is within the limits
pub call_within : {T M P : Type 0} {K : sides.Ghosts T P} (script : Script) (x : Parts T M P) (m : State) (at : At) (call : Call) → IsAt K script x m →
    call_at script at ≡ Some call → IsCall call
call_within script x m at call is called =
    is_call m.script at call is.reached.1.sound.calls.limits (ap (λ (s : Script). call_at s at) is.shows.script_is ∙ called)

-- ---- a call begins

-- what is kept of a call of a process that was begun now
pub record IsNew (m : State) (process : ℕ) (call : Call) (d : kernel.Progress) : Type 0 where
  pub call_is : d.call ≡ call
  pub process_is : d.process ≡ process
  pub user : d.uid ≡ user_of m.store process
  pub entries : AreEntriesOf d []
  pub outstanding : d.outstanding ≡ []

module _ {T M P : Type 0} {K : sides.Ghosts T P} (script : Script) (x : Parts T M P) (m : State) (process : ℕ) (y : Process P) (p : Place)
    (d : kernel.Progress) (shows : Shows K script x m)
    (there : process_in x process ≡ Some y) (runs : running m process ≡ Some p) (none : y.call ≡ None) (new : IsNew m process p.call d) where
  kept : (q : Place) → running m process ≡ Some q → IsCallKept m q d
  kept q is =
      let same : p ≡ q = same_Some p q (sym runs ∙ is) in
      let unbegun : IsNotBegun m q = subst (IsCallAt m q) none ((shows.each process y there).call q is) in
      let number : q.at.process ≡ process = running_process m process q is in
      record {
        call = new.call_is ∙ ap (λ (r : Place). r.call) same;
        process = new.process_is ∙ sym number;
        uid = new.user ∙ ap (user_of m.store) (sym number);
        entries = subst (AreEntriesOf d) (sym unbegun.entries) new.entries;
        outstanding = new.outstanding ∙ sym unbegun.outstanding;
      }

  pub begun_step : Shows K script (with_process x process (record y { call = Some d })) m
  begun_step =
      let was : IsProcessAt K m (slice_index_or x.disk.held process None) x.tables process y = shows.each process y there in
      same_step x process y (record y { call = Some d }) there script m shows
      (record {
        phase = was.phase;
        progress = was.progress;
        call = kept;
        none = λ gone. absurd (let no : Some p ≡ None = sym runs ∙ gone in cc);
        submitted = was.submitted;
        taken = was.taken;
        hand = was.hand;
        engine = engine_of_same x.tables process was.phase y (record y { call = Some d }) refl refl refl was.engine;
      })

-- a call that was begun before
pub begun_before : {T M P : Type 0} (x : Parts T M P) (process : ℕ) (y : Process P) → process_in x process ≡ Some y → is_some y.call ≡ true →
    HasBegun x process
begun_before x process y there begun = record { it = y; there = there; begun = begun }

-- what is not there is nothing
pub none_of : {X : Type 0} (o : Option X) → is_some o ≡ false → o ≡ None
none_of None is = refl
none_of (Some x) is = absurd (false≢true (sym is))
