use Rattle.std.proofs.Common.{unwrap_or}
use Rattle.std.specs.Option.{option_map_or}
use Rattle.bd_base.specs.declared.script.Call.{Call}
use Rattle.bd_entry.specs.declared.entry.Entry.TheVariants.{Closed}
use Rattle.bd_entry.specs.Actions.{entry_of_act}
use Rattle.bd_entry.specs.Calls.{Place, at_of, call_at, entries_of}
use Rattle.bd_entry.specs.Effects.{effect_of}
use Rattle.bd_entry.specs.Rules.{place_in}
use Rattle.bd_machine.proofs.parts.Parts.carry_out.Given as goal

-- the entry that the act adds at this place of the state
abbrev pub ghost-entry_of_act : goal.ghost-entry_of_act
ghost-entry_of_act g a =
    let place : Place = record { call = a.call.now; at = a.at; before = entries_of a.at g.m.journal } in
    record { store = g.m.store; place = place; entry = unwrap_or (entry_of_act g.m.store place a.act.now) (Closed a.at 0) }

-- the store after it
abbrev pub ghost-change_tables : goal.ghost-change_tables
ghost-change_tables g a =
    let e = a.entry.now in
    record {
      process = (at_of e).process;
      before = g.m;
      after = option_map_or (λ (call : Call). effect_of g.m.store (place_in g.m.store call (at_of e)) e) (call_at g.m.script (at_of e)) g.m.store;
    }
