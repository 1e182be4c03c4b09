-- Turns keep the journal a history.
use Rattle.std.proofs.Common.{◌≡◌, [], ◌∷◌, ◌++◌, Option, None, Some, refl, sym, subst}
use Rattle.bd_base.specs.declared.journal.At.{At}
use Rattle.bd_base.specs.declared.volume.Volume.{Volume}
use Rattle.bd_entry.specs.declared.entry.Entry.{Entry}
use Rattle.bd_entry.specs.Calls.{Place}
use Rattle.bd_entry.specs.Effects.{effect_of}
use Rattle.bd_entry.specs.Laws.{IsHistory}
use Rattle.bd_entry.specs.Rules.{place_in}
use Rattle.bd_entry.proofs.Histories.{history-push}
use Rattle.bd_turns.proofs.Cases.{Effective, Leads, turn_leads}
use Rattle.bd_turns.specs.Added.{by_engine, by_invalidation, by_processor, EntriesAreNext, IsAdded}
use Rattle.bd_turns.specs.Engines.{Step}
use Rattle.bd_turns.proofs.Columns.{TurnsKeepHistory}
use Rattle.bd_turns.specs.State.{State}
use Rattle.bd_turns.specs.Turns.{after_step, after_turn, with_entry}

-- the journal and the store of a state are a history of its script
abbrev HasHistory : Volume → State → Type 0
HasHistory v m = IsHistory v m.script m.journal m.store

-- so they are with an entry that is the next one
with_added : (v : Volume) (m : State) (p : Place) (e : Entry) → IsAdded v m p e → HasHistory v (with_entry m p.call e p.at)
with_added v m p e added =
    subst (λ (at : At). IsHistory v m.script (m.journal ++ e ∷ []) (effect_of m.store (place_in m.store p.call at) e)) added.at_is
    (history-push v m.script m.journal m.store p.call e added.next)

after_step-history : (v : Volume) (m : State) (p : Place) (step : Step) (o : Option Entry) → HasHistory v m →
    ((e : Entry) → o ≡ Some e → IsAdded v m p e) → HasHistory v (after_step m p (record step { entry = o }))
after_step-history v m p step None history added = history
after_step-history v m p step (Some e) history added = with_added v m p e (added e refl)

effective-history : (v : Volume) (m next : State) → HasHistory v m → EntriesAreNext v m → Effective m next → HasHistory v next
effective-history v m next history each (Effective.adds p row entry is acting) =
    with_added v m p entry (each p entry (by_processor row is acting))
effective-history v m next history each (Effective.steps p step is stepping) =
    after_step-history v m p step step.entry history (λ e adds. each p e (by_engine step is stepping adds))
effective-history v m next history each (Effective.ends p entry tables is ending) =
    with_added v m p entry (each p entry (by_invalidation tables is ending))
effective-history v m next history each other = history

led-history : (v : Volume) (m next : State) → HasHistory v m → EntriesAreNext v m → Leads m next → HasHistory v next
led-history v m next history each (Leads.stays same) = subst (HasHistory v) (sym same) history
led-history v m next history each (Leads.acts effective) = effective-history v m next history each effective

pub history_kept : TurnsKeepHistory
history_kept v m actor reached each is_actor = led-history v m (after_turn m actor) reached.history each (turn_leads m actor)
