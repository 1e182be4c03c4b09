-- The entries of turns may be added to what the parts of a machine show.
use Rattle.std.proofs.Common.{◌≡◌, ℕ, true, false, None, Some, refl, sym, ap, ◌∙◌}
use Rattle.std.proofs.lemmas.Bool.{false≢true}
use Rattle.std.proofs.lemmas.Option.{none-some, same_Some}
use Rattle.bd_base.specs.declared.volume.Volume.{Volume}
use Rattle.bd_entry.specs.declared.entry.Entry.{Entry}
use Rattle.bd_entry.specs.declared.entry.Entry.TheVariants as entries
use Rattle.bd_entry.specs.Calls.{Place, is_miss_of}
use Rattle.bd_machine.proofs.ShowingAdding.{IsOf}
use Rattle.bd_turns.proofs.AddedEntries.{adds_from, processors_add}
use Rattle.bd_turns.proofs.LegalTurns.{turns_add_legally}
use Rattle.bd_turns.proofs.OwnActs.{is_by_no_act}
use Rattle.bd_turns.specs.declared.turn.Row.{Row}
use Rattle.bd_turns.specs.Added.{by_engine, by_processor}
use Rattle.bd_turns.specs.Engines.{Step, complete, engine_step, engine_with, go_on, retire}
use Rattle.bd_turns.specs.Processors.{Adds, next_action}
use Rattle.bd_turns.specs.Reached.{IsReached}
use Rattle.bd_turns.specs.Sound.{has_told}
use Rattle.bd_turns.specs.State.{Completing, Phase, Progress, Retiring, State, progress_of, running}

-- no processor notes a miss
processors_miss_nothing : (number : ℕ) (m : State) (p : Place) (row : Row) (e : Entry) → next_action m p ≡ Some (Adds row e) →
    is_miss_of number e ≡ false
processors_miss_nothing number m p row e acts =
    processors_add (is_miss_of number) by (λ at owner fd part. refl) m p e (adds_from m p row e acts)
  where
    by : (x : Entry) → is_by_no_act x ≡ false → is_miss_of number x ≡ false
    by (entries.Missed at piece found) is = absurd (false≢true (sym is))
    by x is = refl

-- the entry that a processor adds
pub processor_is_of : (v : Volume) (m : State) (p : Place) (row : Row) (e : Entry) → IsReached v m → running m p.at.process ≡ Some p →
    next_action m p ≡ Some (Adds row e) → IsOf m p e
processor_is_of v m p row e reached runs acts =
    let added = turns_add_legally v m reached p e (by_processor row runs acts) in
    record {
      running_is = runs;
      at_is = added.at_is;
      work_is = added.work_is;
      unfinished = added.unfinished;
      told = λ hand there tells. processors_miss_nothing hand.piece m p row e acts;
    }

-- an engine that has told what became of its command adds no entry
told_adds_nothing : (m : State) (p : Place) (progress : Progress) (number : ℕ) (phase : Phase) (step : Step) →
    has_told phase ≡ true → go_on m p progress number phase ≡ Some step → step.entry ≡ None
told_adds_nothing m p progress number Retiring step tells steps =
    sym (ap (λ (s : Step). s.entry) (same_Some (retire m.tables p progress number) step steps))
told_adds_nothing m p progress number Completing step tells steps =
    sym (ap (λ (s : Step). s.entry) (same_Some (complete m.tables p progress number) step steps))
told_adds_nothing m p progress number phase step tells steps = absurd (false≢true tells)

-- the entry that a device engine adds
pub engine_is_of : (v : Volume) (m : State) (p : Place) (step : Step) (e : Entry) → IsReached v m → running m p.at.process ≡ Some p →
    engine_step m p ≡ Some step → step.entry ≡ Some e → IsOf m p e
engine_is_of v m p step e reached runs steps adds =
    let added = turns_add_legally v m reached p e (by_engine step runs steps adds) in
    record {
      running_is = runs;
      at_is = added.at_is;
      work_is = added.work_is;
      unfinished = added.unfinished;
      told = λ hand there tells.
          let goes : go_on m p (progress_of m p.at.process) hand.piece hand.phase ≡ Some step =
          ap (engine_with m p (progress_of m p.at.process)) (sym there) ∙ steps in
          absurd
          (none-some e
          (sym (told_adds_nothing m p (progress_of m p.at.process) hand.piece hand.phase step tells goes) ∙ adds));
    }
