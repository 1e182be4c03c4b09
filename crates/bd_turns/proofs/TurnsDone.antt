-- What each effective turn does to the calls.
use Rattle.std.proofs.Common.{◌≡◌, ◌≢◌, ℕ, ◌<◌, Bool, true, false, List, [], length, Option, None, Some, refl, sym, ap, ◌∙◌, subst, arith}
use Rattle.std.specs.Prelude.{All}
use Rattle.std.specs.List.{list_any}
use Rattle.std.proofs.lemmas.List.{append-nil, length-set}
use Rattle.std.proofs.lemmas.Option.{none-some, same_Some}
use Rattle.bd_base.specs.declared.key.Key.{Key}
use Rattle.bd_base.specs.declared.volume.Volume.{Volume}
use Rattle.bd_entry.specs.declared.entry.Entry.{Entry}
use Rattle.bd_entry.specs.Actions.{is_for_device}
use Rattle.bd_entry.specs.Calls.{Place, is_ended_by}
use Rattle.bd_entry.specs.Laws.{IsHistory}
use Rattle.bd_entry.specs.Promises.{is_whole_refusal}
use Rattle.bd_entry.specs.Refusals.{file_of}
use Rattle.bd_entry.proofs.HistoryLaws.{histories_keep_valid, process_there}
use Rattle.bd_turns.proofs.DoneTurns.{IsDone, grown, progress_of-other, progress_of-set}
use Rattle.bd_turns.proofs.KeptCalls.{in_turn_kept, processes_kept, unended_kept, unrefused_kept}
use Rattle.bd_turns.proofs.KeptCommands.{clears_kept, commands_kept, device_kept}
use Rattle.bd_turns.proofs.RunningPlaces.{runs_at}
use Rattle.bd_turns.proofs.StayingDescriptors.{LeavesOpen}
use Rattle.bd_turns.specs.Added.{IsAdded}
use Rattle.bd_turns.specs.Reached.{IsReached}
use Rattle.bd_turns.specs.Sound.{AreCallsSound, AreCommands, is_clear_at}
use Rattle.bd_turns.specs.State.{Progress, State, outstanding, progress_of, running, with_progress}
use Rattle.bd_turns.specs.Turns.{after_effect, holds_throughout, with_entry_if_any}

-- ---- what is owed of each turn

-- what a turn does to the calls
pub record LeavesCalls (m : State) (p : Place) (o : Option Entry) (progress : Progress) : Type 0 where
  pub commands : AreCommands (grown p o) progress
  pub for_device : is_ended_by p.call p.before ≡ false → All (λ piece. is_for_device m.store p piece ≡ true) (outstanding progress)
  pub whole : (e : Entry) → o ≡ Some e → is_whole_refusal e ≡ true → outstanding progress ≡ []
  pub held : holds_throughout p.call ≡ true → (key : Key) → list_any (is_clear_at key) (grown p o).before ≡ true →
      progress.held ≡ file_of m.store p
  pub leaves : (other : ℕ) (q : Place) (key : Key) → other ≢ p.at.process → running m other ≡ Some q →
      list_any (is_clear_at key) q.before ≡ true → (e : Entry) → o ≡ Some e → LeavesOpen e key.process key.fd

-- after such a turn the calls are sound
pub calls_sound : (v : Volume) (m done : State) (p : Place) (o : Option Entry) (progress : Progress) → IsReached v m →
    IsDone v m done p o progress → LeavesCalls m p o progress →
    (let next = after_effect done p in IsHistory v next.script next.journal next.store) → AreCallsSound (after_effect done p)
calls_sound v m done p o progress reached is leaves history =
    let sound = reached.sound.calls in
    let next = after_effect done p in
    record {
      limits = history.limits;
      processes = processes_kept v m done p o progress sound is;
      valid = histories_keep_valid v next.script next.journal next.store history;
      in_turn = in_turn_kept v m done p o progress sound is;
      commands = commands_kept v m done p o progress reached is leaves.commands;
      for_device = device_kept v m done p o progress reached is leaves.for_device;
      unended = unended_kept v m done p o progress sound is;
      unrefused = unrefused_kept v m done p o progress sound is leaves.whole;
      clears_held = clears_kept v m done p o progress reached is history leaves.commands leaves.held leaves.leaves;
    }

-- ---- what many turns share

module _ (v : Volume) (m : State) (p : Place) (reached : IsReached v m) (is : running m p.at.process ≡ Some p) where
  abbrev process : ℕ
  process = p.at.process

  -- how far the process is
  abbrev now : Progress
  now = progress_of m process

  -- the process is there
  pub within : process < length m.processes
  within =
      omega
      (process_there m.script p.at p.call (runs_at m process p is).called, reached.sound.calls.processes.progress, arith)

  -- a state whose process has come this far
  pub set_done : (base : State) (o : Option Entry) (progress : Progress) → base.script ≡ m.script →
      base.journal ≡ (with_entry_if_any m p o).journal → base.store ≡ (with_entry_if_any m p o).store → base.processes ≡ m.processes →
      length base.tables.walks ≡ length m.tables.walks → ((e : Entry) → o ≡ Some e → IsAdded v m p e) →
      progress.ended ≡ now.ended → IsDone v m (with_progress base process progress) p o progress
  set_done base o progress script journal store processes walks added ended =
      let there : process < length base.processes = omega (ap (λ (x : List Progress). length x) processes, within, arith) in
      record {
        running_is = is;
        script = script;
        journal = journal;
        store = store;
        added = added;
        own = progress_of-set base process progress there;
        others = λ other differ.
            progress_of-other base process progress other differ
            ∙ ap (λ (x : List Progress). progress_of (record m { processes = x }) other) processes;
        count = length-set base.processes process progress ∙ ap (λ (x : List Progress). length x) processes;
        walks = walks;
        ended = ended;
      }

  -- a state whose processes stay as far as they are
  pub same_done : (base : State) (o : Option Entry) → base.script ≡ m.script →
      base.journal ≡ (with_entry_if_any m p o).journal → base.store ≡ (with_entry_if_any m p o).store → base.processes ≡ m.processes →
      length base.tables.walks ≡ length m.tables.walks → ((e : Entry) → o ≡ Some e → IsAdded v m p e) → IsDone v m base p o now
  same_done base o script journal store processes walks added =
      let same : (other : ℕ) → progress_of base other ≡ progress_of m other =
      λ other. ap (λ (x : List Progress). progress_of (record m { processes = x }) other) processes in
      record {
        running_is = is;
        script = script;
        journal = journal;
        store = store;
        added = added;
        own = same process;
        others = λ other differ. same other;
        count = ap (λ (x : List Progress). length x) processes;
        walks = walks;
        ended = refl;
      }

  -- a call that cleared a right holds its file
  pub held_before : (key : Key) → list_any (is_clear_at key) p.before ≡ true → now.held ≡ file_of m.store p
  held_before key some =
      let held = reached.sound.calls.clears_held process p key is some in
      let holder = reached.sound.holds_are.holds process held.0.file held.2 in
      let here : holder.0 ≡ p = same_Some holder.0 p (sym holder.1 ∙ is) in
      held.2 ∙ sym (subst (λ (q : Place). file_of m.store q ≡ Some held.0.file) here holder.2)

  pub commands_now : AreCommands p now
  commands_now = reached.sound.calls.commands.of_running process p is

  pub device_now : is_ended_by p.call p.before ≡ false → All (λ piece. is_for_device m.store p piece ≡ true) (outstanding now)
  device_now = reached.sound.calls.for_device process p is

-- an entry that is not there leaves all open
pub none_leaves : {A : Type 0} (e : Entry) → None ≡ Some e → A
none_leaves e none = absurd (none-some e none)

-- the entries without a new one
pub before_none : (p : Place) (test : Entry → Bool) → list_any test (grown p None).before ≡ true → list_any test p.before ≡ true
before_none p test some = sym (ap (list_any test) (append-nil p.before)) ∙ some
