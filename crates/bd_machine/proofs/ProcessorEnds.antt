-- The end of a processor's turn: what it leaves is the state after it.
use Rattle.std.proofs.Common.{◌≡◌, ℕ, ◌+◌, List, [], ◌∷◌, ◌++◌, Some, sym, ap, ◌∙◌, subst, arith}
use Rattle.bd_base.specs.declared.journal.At.{At}
use Rattle.bd_base.specs.declared.script.Script.{Script}
use Rattle.bd_base.specs.declared.volume.Volume.{Volume}
use Rattle.bd_entry.specs.declared.entry.Entry.{Entry}
use Rattle.bd_entry.specs.Calls.{Place, entries_of}
use Rattle.bd_machine.specs.declared.parts.Parts.{Parts}
use Rattle.bd_machine.specs.Logs.{AppendsEvent}
use Rattle.bd_machine.specs.Shows.{Shows}
use Rattle.bd_machine.specs.Turns.{TookTurn}
use Rattle.bd_turns.specs.declared.turn.Row.{Row}
use Rattle.bd_turns.specs.declared.turn.Turn.TheVariants.{Did}
use Rattle.bd_turns.specs.Reached.{IsReached}
use Rattle.bd_turns.specs.State.{State, progress_of, running}
use Rattle.bd_turns.specs.Turns.{Acting, Outcome, answer_in, outcome_of, state_after}
use Rattle.bd_turns.proofs.RunningPlaces.{runs_at}
use Rattle.bd_tables.specs.declared.sides.Tables as sides

-- an effective turn that came to this outcome was counted and told
pub took_did : {T M P : Type 0} {K : sides.Ghosts T P} (script : Script) (x y z : Parts T M P) (m : State) (actor : ℕ) (row : Row) (next : State)
    (added : List Entry) →
    Shows K script z next → outcome_of m actor ≡ Acting row next added → y.log.events ≡ x.log.events → y.log.turns ≡ x.log.turns →
    AppendsEvent y.log (record { turn = y.log.turns; actor = actor; row = row }) z.log → TookTurn K script x z m actor (Did row)
took_did {K = K} script x y z m actor row next added shows is events turns appends = record {
  shows = subst (λ (o : Outcome). Shows K script z (state_after m o)) (sym is) shows;
  answer = ap answer_in (sym is);
  events = appends.events ∙ ap (λ (l : List _). l ++ record { turn = y.log.turns; actor = actor; row = row } ∷ []) events
      ∙ ap (λ (n : ℕ). x.log.events ++ record { turn = n; actor = actor; row = row } ∷ []) turns;
  turns = appends.turns ∙ turns;
}

-- no entry of the next call stands in the journal
pub none_later : (v : Volume) (m : State) (p : Place) → IsReached v m → running m p.at.process ≡ Some p →
    entries_of (record { process = p.at.process; call = p.at.call + 1 }) m.journal ≡ []
none_later v m p reached runs =
    let number : p.at.call ≡ (progress_of m p.at.process).ended = ap (λ (at : At). at.call) (runs_at m p.at.process p runs).at_is in
    reached.sound.calls.in_turn.later p.at.process (p.at.call + 1) (omega (arith, number))
