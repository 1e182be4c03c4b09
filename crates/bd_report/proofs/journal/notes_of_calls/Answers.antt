use Rattle.std.proofs.Common.{◌≡◌, ◌+◌, ◌*◌, ◌<◌, ℕ, [], ◌∷◌, ◌++◌, List, Some, length, set, take, sym, ap, ◌∙◌, subst, arith, refl}
use Rattle.std.specs.Prelude.{is_some, slice_get}
use Rattle.std.proofs.lemmas.List.{take_more}
use Rattle.std.proofs.lemmas.Option.{slice_get_read}
use Rattle.bd_base.specs.declared.limits.TheConstants.{CALLS}
use Rattle.bd_base.specs.declared.script.Call.{Call}
use Rattle.bd_entry.specs.Calls.{at_of, call_at}
use Rattle.bd_entry.specs.declared.entry.Entry.{Entry}
use Rattle.bd_entry.proofs.CallPieces.{All-slice_get}
use Rattle.bd_report.specs.declared.notes.Notes.{Notes}
use Rattle.bd_report.specs.Notes.{AreNotesOfAll, AreNotesOf, slot_of}
use Rattle.bd_report.proofs.Order.{IsNoted, noted_at}
use Rattle.bd_report.proofs.Tables.{AreNotesOfAll-push, slot_inside}
use Rattle.bd_report.proofs.journal.notes_of_calls.Goals as goal

pub loop-entry-init : goal.loop-entry-init
loop-entry-init c = record {
  room = c.in_ok-table.ensures.count ∙ ap (λ (n : ℕ). CALLS * n) c.len.ensures;
  tells = λ at call notes called is.
      All-slice_get (λ (t : Notes). (of : Call) → AreNotesOf of [] t) c.in_ok-table.table.items (slot_of at) notes c.in_ok-table.ensures.nothing is call;
}

pub index_mut-notes-requires : goal.index_mut-notes-requires
index_mut-notes-requires c =
    let noted : IsNoted c.args.script.now c.entry-item.result =
    noted_at c.args.script.now c.args.journal.now c.loop-entry.entry-index c.entry-item.result c.requires.limits c.requires.in_order
    c.loop-entry-test.true c.entry-item.is in
    let inside : slot_of (at_of c.entry-item.result) < length c.loop-entry.table.items =
    slot_inside c.args.script.now (take c.loop-entry.entry-index c.args.journal.now) c.loop-entry.table.items (at_of c.entry-item.result) noted.call
    c.requires.limits c.loop-entry.invariant noted.called in
    let slot : c.slot_of.result ≡ slot_of (at_of c.entry-item.result) = c.slot_of.ensures ∙ ap slot_of c.at_of-at.ensures in
    omega (arith, inside, slot, c.loop-entry.table.ok.0)

pub call_at-requires : goal.call_at-requires
call_at-requires c =
    let noted : IsNoted c.args.script.now c.entry-item.result =
    noted_at c.args.script.now c.args.journal.now c.loop-entry.entry-index c.entry-item.result c.requires.limits c.requires.in_order
    c.loop-entry-test.true c.entry-item.is in
    ap is_some (ap (call_at c.args.script.now) c.at_of-at.ensures ∙ noted.called)

pub note-requires : goal.note-requires
note-requires c =
    let noted : IsNoted c.args.script.now c.entry-item.result =
    noted_at c.args.script.now c.args.journal.now c.loop-entry.entry-index c.entry-item.result c.requires.limits c.requires.in_order
    c.loop-entry-test.true c.entry-item.is in
    noted.few

pub loop-entry-preserved : goal.loop-entry-preserved
loop-entry-preserved c =
    let script = c.args.script.now in
    let entry = c.entry-item.result in
    let front = take c.loop-entry.entry-index c.args.journal.now in
    let table = c.loop-entry.table.items in
    let was = c.index_mut-notes.result.now in
    let slot : c.slot_of.result ≡ slot_of (at_of entry) = c.slot_of.ensures ∙ ap slot_of c.at_of-at.ensures in
    let called : call_at script (at_of entry) ≡ Some c.call_at.result.now = ap (call_at script) (sym c.at_of-at.ensures) ∙ c.call_at.ensures in
    let inside : slot_of (at_of entry) < length table =
    slot_inside script front table (at_of entry) c.call_at.result.now c.requires.limits c.loop-entry.invariant called in
    let stood : slice_get table (slot_of (at_of entry)) ≡ Some was =
    subst (λ (i : ℕ). slice_get table i ≡ Some was) slot
    (slice_get_read table (length table) c.slot_of.result was refl (omega (arith, inside, slot)) c.index_mut-notes.ensures.value) in
    let pushed : AreNotesOfAll script (front ++ entry ∷ []) (set table (slot_of (at_of entry)) c.note.new.self) =
    AreNotesOfAll-push script front entry c.call_at.result.now table was c.note.new.self c.requires.limits c.loop-entry.invariant called stood c.note.ensures in
    let longer : front ++ entry ∷ [] ≡ take (c.loop-entry.entry-index + 1) c.args.journal.now =
    ap (λ (e : Entry). front ++ e ∷ []) c.entry-item.is
    ∙ sym (take_more c.args.journal.now c.loop-entry.entry-index entry c.loop-entry-test.true) in
    subst (λ (i : ℕ). AreNotesOfAll script (take (c.loop-entry.entry-index + 1) c.args.journal.now) (set table i c.note.new.self)) (sym slot)
    (subst (λ (j : List Entry). AreNotesOfAll script j (set table (slot_of (at_of entry)) c.note.new.self)) longer pushed)
