use Rattle.std.proofs.Common.{◌≡◌, ℕ, true, List, [], ◌∷◌, ◌++◌, length, arith, get_or, Option, Some, sym, ap, ◌∙◌, subst}
use Rattle.std.specs.Option.{option_copied}
use Rattle.std.proofs.lemmas.List.{length-set}
use Rattle.std.proofs.lemmas.Option.{same_Some}
use Rattle.std.proofs.lemmas.Result.{err_from_is_err_and}
use Rattle.bd_base.specs.declared.key.Cell.{Cell}
use Rattle.bd_base.specs.declared.script.Process.{Process as ScriptProcess}
use Rattle.bd_base.specs.Scripts.{IsCall}
use Rattle.bd_entry.specs.declared.act.Act.{Act}
use Rattle.bd_entry.specs.declared.entry.Entry.{Entry}
use Rattle.bd_entry.specs.Calls.{Place}
use Rattle.bd_entry.specs.Effects.{after_change}
use Rattle.bd_kernel.specs.Disks.{DiskState, IsDiskOf}
use Rattle.bd_machine.specs.declared.parts.Parts.{Parts}
use Rattle.bd_machine.specs.Logs.{LogState}
use Rattle.bd_machine.specs.Turns.{AreCellsFor, AreFew, EndsTurn, HasBegun, MayHold, StaysAt, TookTurn, is_built, with_hold}
use Rattle.bd_machine.proofs.ProcessorAdded.{Carried, begun_held, few_held, held_parts, may_take, took_entry}
use Rattle.bd_machine.proofs.ProcessorAdds.{adds_made, attaches, can_change_disk, can_follow, changed_is, has_its_piece, is_entry_of}
use Rattle.bd_machine.proofs.ProcessorBegins.{begun_there, call_within, user_read}
use Rattle.bd_machine.proofs.ProcessorEntries.{AddsHere}
use Rattle.bd_machine.proofs.ProcessorKinds.{built_here}
use Rattle.bd_machine.proofs.ProcessorReady.{Ready, call_begun, call_of_script, called_next, fd_kept, hold_kept, in_script, place, ready_for}
use Rattle.bd_turns.specs.declared.turn.Row.{Row}
use Rattle.bd_turns.specs.declared.turn.Turn.{Turn}
use Rattle.bd_turns.specs.declared.turn.Turn.TheVariants.{Did}
use Rattle.bd_turns.specs.Processors.{row_of_entry}
use Rattle.bd_machine.proofs.parts.Parts.carry_out.Goals as goal

pub call_at-call-requires : goal.call_at-call-requires
call_at-call-requires g c =
    called_next c.args.script.now c.args.self.now g.m c.args.p c.args.act c.at.result c.requires.1.1.1.0 c.requires.1.1.1.1.0 c.requires.1.1.1.1.1.0
    c.at.ensures

pub bounds-as_slice-get : goal.bounds-as_slice-get
bounds-as_slice-get g c =
    let there = in_script c.args.script.now c.args.self.now g.m c.args.p c.requires.1.1.1.0 c.requires.1.1.1.1.0 in
    let count : length c.as_slice.result.now ≡ length c.args.script.now.processes = ap (λ (l : List ScriptProcess). length l) c.as_slice.ensures in
    omega (arith, there, count, c.get.ensures.value)

pub bounds-as_slice-get-in_ok-reserve : goal.bounds-as_slice-get-in_ok-reserve
bounds-as_slice-get-in_ok-reserve g c =
    let there = in_script c.args.script.now c.args.self.now g.m c.args.p c.requires.1.1.1.0 c.requires.1.1.1.1.0 in
    let count : length c.as_slice.result.now ≡ length c.args.script.now.processes = ap (λ (l : List ScriptProcess). length l) c.as_slice.ensures in
    omega (arith, there, count, c.get.ensures.value)

pub index-requires : goal.index-requires
index-requires g c =
    let below = begun_there c.args.self.now c.args.p c.requires.1.1.1.1.0 in
    let count = c.args.self.now.processes.ok.0 in
    omega (arith, below, count, c.get-2.ensures.value)

pub unwrap-running-requires : goal.unwrap-running-requires
unwrap-running-requires g c =
    c.as_ref.ensures.variant
    ∙ call_begun c.args.self.now c.args.p c.get-2.result c.index.result.now c.requires.1.1.1.1.0 c.get-2.ensures.value c.index.ensures

pub at-requires-2 : goal.at-requires-2
at-requires-2 g c =
    begun_there c.args.self.now c.args.p c.requires.1.1.1.1.0

pub entry_of_act-requires : goal.entry_of_act-requires
entry_of_act-requires g c =
    let old = c.args.self.now in
    let x : Parts _ _ _ = record old { log = c.reserve.new.self } in
    let script = c.args.script.now in
    let m = g.m in
    let process = c.args.p in
    let act : Act = c.args.act in
    let y = c.index.result.now in
    let mine = c.unwrap-running.result.now in
    let begun : y.call ≡ Some mine = sym c.as_ref.ensures.value ∙ ap (λ (o : _). option_copied o) c.unwrap-running.ensures in
    let r : Ready g.T.Tables script x m process y mine act =
    ready_for script old m process c.get-2.result y mine act c.reserve.new.self c.requires.1.1.1.0 c.requires.1.1.1.1.0 c.requires.1.1.1.1.1.0
    c.get-2.ensures.value
    c.index.ensures begun c.reserve.ensures.same.entries in
    let p : Place = place script x m process y mine act r in
    let called = call_of_script script x m process y mine act r c.at.result (c.at.ensures y r.here.there) in
    let call : p.call ≡ c.call_at-call.result.now = same_Some p.call c.call_at-call.result.now (sym called.0 ∙ c.call_at-call.ensures) in
    let at = (call_of_script script x m process y mine act r c.at-2.result (c.at-2.ensures y r.here.there)).1 in
    let within : IsCall c.call_at-call.result.now =
    call_within script old m c.at.result c.call_at-call.result.now c.requires.1.1.1.0 c.call_at-call.ensures in
    λ κs out. (
      out,
      is_entry_of script x m process y mine act r c.call_at-call.result.now c.at-2.result c.fd.result c.requires.1.1.1.1.1.1 call at
          (fd_kept script x m process y mine act r c.fd.result c.fd.ensures) within,
    )

pub cells_for-requires : goal.cells_for-requires
cells_for-requires g c =
    let old = c.args.self.now in
    let x : Parts _ _ _ = record old { log = c.reserve.new.self } in
    let script = c.args.script.now in
    let m = g.m in
    let process = c.args.p in
    let act : Act = c.args.act in
    let y = c.index.result.now in
    let mine = c.unwrap-running.result.now in
    let begun : y.call ≡ Some mine = sym c.as_ref.ensures.value ∙ ap (λ (o : _). option_copied o) c.unwrap-running.ensures in
    let r : Ready g.T.Tables script x m process y mine act =
    ready_for script old m process c.get-2.result y mine act c.reserve.new.self c.requires.1.1.1.0 c.requires.1.1.1.1.0 c.requires.1.1.1.1.1.0
    c.get-2.ensures.value
    c.index.ensures begun c.reserve.ensures.same.entries in
    let p : Place = place script x m process y mine act r in
    let called = call_of_script script x m process y mine act r c.at.result (c.at.ensures y r.here.there) in
    let call : p.call ≡ c.call_at-call.result.now = same_Some p.call c.call_at-call.result.now (sym called.0 ∙ c.call_at-call.ensures) in
    let at = (call_of_script script x m process y mine act r c.at-2.result (c.at-2.ensures y r.here.there)).1 in
    let e : Entry = c.in_ok-entry.entry in
    let adds : AddsHere r.v m p act e =
    adds_made script x m process y mine act r c.call_at-call.result.now c.at-2.result e c.requires.1.1.1.1.1.1 call at c.in_ok-entry.ensures in
    attaches script x m process y mine act r e adds

pub change-requires : goal.change-requires
change-requires g c =
    let old = c.args.self.now in
    let x : Parts _ _ _ = record old { log = c.reserve.new.self } in
    let script = c.args.script.now in
    let m = g.m in
    let process = c.args.p in
    let act : Act = c.args.act in
    let y = c.index.result.now in
    let mine = c.unwrap-running.result.now in
    let begun : y.call ≡ Some mine = sym c.as_ref.ensures.value ∙ ap (λ (o : _). option_copied o) c.unwrap-running.ensures in
    let r : Ready g.T.Tables script x m process y mine act =
    ready_for script old m process c.get-2.result y mine act c.reserve.new.self c.requires.1.1.1.0 c.requires.1.1.1.1.0 c.requires.1.1.1.1.1.0
    c.get-2.ensures.value
    c.index.ensures begun c.reserve.ensures.same.entries in
    let p : Place = place script x m process y mine act r in
    let called = call_of_script script x m process y mine act r c.at.result (c.at.ensures y r.here.there) in
    let call : p.call ≡ c.call_at-call.result.now = same_Some p.call c.call_at-call.result.now (sym called.0 ∙ c.call_at-call.ensures) in
    let at = (call_of_script script x m process y mine act r c.at-2.result (c.at-2.ensures y r.here.there)).1 in
    let e : Entry = c.in_ok-entry.entry in
    let adds : AddsHere r.v m p act e =
    adds_made script x m process y mine act r c.call_at-call.result.now c.at-2.result e c.requires.1.1.1.1.1.1 call at c.in_ok-entry.ensures in
    can_change_disk script x m process y mine act r e adds

pub returns-in_err-change-clause-err : goal.returns-in_err-change-clause-err
returns-in_err-change-clause-err g c =
    let old = c.args.self.now in
    let x : Parts _ _ _ = record old { log = c.reserve.new.self } in
    let script = c.args.script.now in
    let m = g.m in
    let process = c.args.p in
    let act : Act = c.args.act in
    let y = c.index.result.now in
    let mine = c.unwrap-running.result.now in
    let begun : y.call ≡ Some mine = sym c.as_ref.ensures.value ∙ ap (λ (o : _). option_copied o) c.unwrap-running.ensures in
    let r : Ready g.T.Tables script x m process y mine act =
    ready_for script old m process c.get-2.result y mine act c.reserve.new.self c.requires.1.1.1.0 c.requires.1.1.1.1.0 c.requires.1.1.1.1.1.0
    c.get-2.ensures.value
    c.index.ensures begun c.reserve.ensures.same.entries in
    let failed = err_from_is_err_and c.from_residual-in_err-change.result c.from_residual-in_err-change.ensures.1 in
    let stays : StaysAt g.T.Tables script old (record x { disk = c.change.new.self }) m =
    subst (λ (d : DiskState). StaysAt g.T.Tables script old (record x { disk = d }) m) (sym c.in_err-change.ensures.err)
    (record { shows = r.here.shows; events = c.reserve.ensures.same.events; turns = c.reserve.ensures.same.turns }) in
    rw failed.1 stays

pub note-requires-clause-piece : goal.note-requires-clause-piece
note-requires-clause-piece g c =
    let old = c.args.self.now in
    let x : Parts _ _ _ = record old { log = c.reserve.new.self } in
    let script = c.args.script.now in
    let m = g.m in
    let process = c.args.p in
    let act : Act = c.args.act in
    let y = c.index.result.now in
    let mine = c.unwrap-running.result.now in
    let begun : y.call ≡ Some mine = sym c.as_ref.ensures.value ∙ ap (λ (o : _). option_copied o) c.unwrap-running.ensures in
    let r : Ready g.T.Tables script x m process y mine act =
    ready_for script old m process c.get-2.result y mine act c.reserve.new.self c.requires.1.1.1.0 c.requires.1.1.1.1.0 c.requires.1.1.1.1.1.0
    c.get-2.ensures.value
    c.index.ensures begun c.reserve.ensures.same.entries in
    let p : Place = place script x m process y mine act r in
    let called = call_of_script script x m process y mine act r c.at.result (c.at.ensures y r.here.there) in
    let call : p.call ≡ c.call_at-call.result.now = same_Some p.call c.call_at-call.result.now (sym called.0 ∙ c.call_at-call.ensures) in
    let at = (call_of_script script x m process y mine act r c.at-2.result (c.at-2.ensures y r.here.there)).1 in
    let e : Entry = c.in_ok-entry.entry in
    let adds : AddsHere r.v m p act e =
    adds_made script x m process y mine act r c.call_at-call.result.now c.at-2.result e c.requires.1.1.1.1.1.1 call at c.in_ok-entry.ensures in
    has_its_piece script x m process y mine act r e adds

pub change_tables-requires : goal.change_tables-requires
change_tables-requires g c =
    let old = c.args.self.now in
    let x : Parts _ _ _ = record old { log = c.reserve.new.self } in
    let script = c.args.script.now in
    let m = g.m in
    let process = c.args.p in
    let act : Act = c.args.act in
    let y = c.index.result.now in
    let mine = c.unwrap-running.result.now in
    let begun : y.call ≡ Some mine = sym c.as_ref.ensures.value ∙ ap (λ (o : _). option_copied o) c.unwrap-running.ensures in
    let r : Ready g.T.Tables script x m process y mine act =
    ready_for script old m process c.get-2.result y mine act c.reserve.new.self c.requires.1.1.1.0 c.requires.1.1.1.1.0 c.requires.1.1.1.1.1.0
    c.get-2.ensures.value
    c.index.ensures begun c.reserve.ensures.same.entries in
    let p : Place = place script x m process y mine act r in
    let called = call_of_script script x m process y mine act r c.at.result (c.at.ensures y r.here.there) in
    let call : p.call ≡ c.call_at-call.result.now = same_Some p.call c.call_at-call.result.now (sym called.0 ∙ c.call_at-call.ensures) in
    let at = (call_of_script script x m process y mine act r c.at-2.result (c.at-2.ensures y r.here.there)).1 in
    let e : Entry = c.in_ok-entry.entry in
    let adds : AddsHere r.v m p act e =
    adds_made script x m process y mine act r c.call_at-call.result.now c.at-2.result e c.requires.1.1.1.1.1.1 call at c.in_ok-entry.ensures in
    let d : DiskState = c.change.new.self in
    let it : ScriptProcess = c.index-as_slice-get.result in
    let uid : ℕ = (get_or c.as_slice.result.now c.get.result it).uid in
    let user = user_read script x m process c.get.result c.as_slice.result.now it r.here.shows
    (in_script script old m process c.requires.1.1.1.0 c.requires.1.1.1.1.0) c.as_slice.ensures c.get.ensures.value c.index-as_slice-get.is
    ∙ ap (λ (q : ScriptProcess). q.uid) c.index-as_slice-get.is in
    let changed : IsDiskOf d (after_change m.store e) = changed_is script x m process y mine act r e adds d uid c.in_ok-change.ensures.effect user in
    let z : Parts _ _ _ = c.note.new.self in
    λ κs out. (
      out.0,
      (
        out.1.0,
        (
          out.1.1,
          can_follow script x m process y mine act r e adds d changed z c.note.ensures c.as_slice-2.result.now
              (subst (λ (cells : List Cell). AreCellsFor x.disk process e cells) (sym c.as_slice-2.ensures.value) c.in_ok-cells.ensures),
        ),
      ),
    )

pub hold-requires-clause-process : goal.hold-requires-clause-process
hold-requires-clause-process g c =
    let old = c.args.self.now in
    let x : Parts _ _ _ = record old { log = c.reserve.new.self } in
    let script = c.args.script.now in
    let m = g.m in
    let process = c.args.p in
    let act : Act = c.args.act in
    let y = c.index.result.now in
    let mine = c.unwrap-running.result.now in
    let begun : y.call ≡ Some mine = sym c.as_ref.ensures.value ∙ ap (λ (o : _). option_copied o) c.unwrap-running.ensures in
    let r : Ready g.T.Tables script x m process y mine act =
    ready_for script old m process c.get-2.result y mine act c.reserve.new.self c.requires.1.1.1.0 c.requires.1.1.1.1.0 c.requires.1.1.1.1.1.0
    c.get-2.ensures.value
    c.index.ensures begun c.reserve.ensures.same.entries in
    let z : Parts _ _ _ = c.note.new.self in
    let t : Parts _ _ _ = c.change_tables.new.self in
    let same : t ≡ record z { tables = t.tables } = c.change_tables.ensures.same in
    let holds : t.disk.held ≡ x.disk.held =
    ap (λ (w : Parts _ _ _). w.disk.held) same ∙ c.note.ensures.held ∙ c.in_ok-change.ensures.held in
    let there = begun_there old process c.requires.1.1.1.1.0 in
    let shows = r.here.shows in
    let count : length t.disk.held ≡ length x.disk.held = ap (λ (l : List (Option ℕ)). length l) holds in
    omega (arith, there, shows.count, shows.holders, count)

pub hold-requires-clause-free : goal.hold-requires-clause-free
hold-requires-clause-free g c =
    let old = c.args.self.now in
    let x : Parts _ _ _ = record old { log = c.reserve.new.self } in
    let script = c.args.script.now in
    let m = g.m in
    let process = c.args.p in
    let act : Act = c.args.act in
    let y = c.index.result.now in
    let mine = c.unwrap-running.result.now in
    let begun : y.call ≡ Some mine = sym c.as_ref.ensures.value ∙ ap (λ (o : _). option_copied o) c.unwrap-running.ensures in
    let r : Ready g.T.Tables script x m process y mine act =
    ready_for script old m process c.get-2.result y mine act c.reserve.new.self c.requires.1.1.1.0 c.requires.1.1.1.1.0 c.requires.1.1.1.1.1.0
    c.get-2.ensures.value
    c.index.ensures begun c.reserve.ensures.same.entries in
    let p : Place = place script x m process y mine act r in
    let called = call_of_script script x m process y mine act r c.at.result (c.at.ensures y r.here.there) in
    let call : p.call ≡ c.call_at-call.result.now = same_Some p.call c.call_at-call.result.now (sym called.0 ∙ c.call_at-call.ensures) in
    let at = (call_of_script script x m process y mine act r c.at-2.result (c.at-2.ensures y r.here.there)).1 in
    let e : Entry = c.in_ok-entry.entry in
    let adds : AddsHere r.v m p act e =
    adds_made script x m process y mine act r c.call_at-call.result.now c.at-2.result e c.requires.1.1.1.1.1.1 call at c.in_ok-entry.ensures in
    let z : Parts _ _ _ = c.note.new.self in
    let held : Option ℕ = c.file_to_hold-held.result in
    let held_is = hold_kept script x m process y mine act r c.call_at-call.result.now c.row_of-row.result (row_of_entry e) held call
    c.row_of-row.ensures c.file_to_hold-held.ensures in
    let t : Parts _ _ _ = c.change_tables.new.self in
    let same : t ≡ record z { tables = t.tables } = c.change_tables.ensures.same in
    let holds : t.disk.held ≡ x.disk.held =
    ap (λ (w : Parts _ _ _). w.disk.held) same ∙ c.note.ensures.held ∙ c.in_ok-change.ensures.held in
    let built : is_built p.call ≡ true = built_here script old m process p c.requires.1.1.1.0 r.here.runs in
    subst (λ (l : List (Option ℕ)). MayHold l process held) (sym holds) (may_take script x m process y mine act r e adds held built held_is)

pub end_turn-requires-clause-begun : goal.end_turn-requires-clause-begun
end_turn-requires-clause-begun g c =
    let old = c.args.self.now in
    let x : Parts _ _ _ = record old { log = c.reserve.new.self } in
    let script = c.args.script.now in
    let m = g.m in
    let process = c.args.p in
    let act : Act = c.args.act in
    let y = c.index.result.now in
    let mine = c.unwrap-running.result.now in
    let begun : y.call ≡ Some mine = sym c.as_ref.ensures.value ∙ ap (λ (o : _). option_copied o) c.unwrap-running.ensures in
    let r : Ready g.T.Tables script x m process y mine act =
    ready_for script old m process c.get-2.result y mine act c.reserve.new.self c.requires.1.1.1.0 c.requires.1.1.1.1.0 c.requires.1.1.1.1.1.0
    c.get-2.ensures.value
    c.index.ensures begun c.reserve.ensures.same.entries in
    let p : Place = place script x m process y mine act r in
    let called = call_of_script script x m process y mine act r c.at.result (c.at.ensures y r.here.there) in
    let call : p.call ≡ c.call_at-call.result.now = same_Some p.call c.call_at-call.result.now (sym called.0 ∙ c.call_at-call.ensures) in
    let at = (call_of_script script x m process y mine act r c.at-2.result (c.at-2.ensures y r.here.there)).1 in
    let e : Entry = c.in_ok-entry.entry in
    let adds : AddsHere r.v m p act e =
    adds_made script x m process y mine act r c.call_at-call.result.now c.at-2.result e c.requires.1.1.1.1.1.1 call at c.in_ok-entry.ensures in
    let d : DiskState = c.change.new.self in
    let it : ScriptProcess = c.index-as_slice-get.result in
    let uid : ℕ = (get_or c.as_slice.result.now c.get.result it).uid in
    let user = user_read script x m process c.get.result c.as_slice.result.now it r.here.shows
    (in_script script old m process c.requires.1.1.1.0 c.requires.1.1.1.1.0) c.as_slice.ensures c.get.ensures.value c.index-as_slice-get.is
    ∙ ap (λ (q : ScriptProcess). q.uid) c.index-as_slice-get.is in
    let changed : IsDiskOf d (after_change m.store e) = changed_is script x m process y mine act r e adds d uid c.in_ok-change.ensures.effect user in
    let z : Parts _ _ _ = c.note.new.self in
    let held : Option ℕ = c.file_to_hold-held.result in
    let held_is = hold_kept script x m process y mine act r c.call_at-call.result.now c.row_of-row.result (row_of_entry e) held call
    c.row_of-row.ensures c.file_to_hold-held.ensures in
    let t : Parts _ _ _ = c.change_tables.new.self in
    let same : t ≡ record z { tables = t.tables } = c.change_tables.ensures.same in
    let log : LogState = c.add.new.self in
    let told : t.log ≡ x.log = ap (λ (w : Parts _ _ _). w.log) same ∙ c.note.ensures.log in
    let carried : Carried script x m process y mine act r e adds d z t.tables log held =
    record {
      changed = changed;
      same_holds = c.in_ok-change.ensures.held;
      noted = c.note.ensures;
      tables_are = c.change_tables.ensures.shown;
      passes = c.change_tables.ensures.passes;
      entries = c.add.ensures.entries ∙ ap (λ (l : LogState). l.entries ++ e ∷ []) told;
      held_is = held_is;
    } in
    let parts : Parts _ _ _ = held_parts script x m process y mine act r e adds d z t.tables log held carried in
    let is : c.hold.new.self ≡ parts = c.hold.ensures ∙ ap (λ (w : Parts _ _ _). with_hold (record w { log = log }) process held) same in
    subst (λ (w : Parts _ _ _). HasBegun w process) (sym is) (begun_held script x m process y mine act r e adds d z t.tables log held carried)

pub end_turn-requires-clause-holder : goal.end_turn-requires-clause-holder
end_turn-requires-clause-holder g c =
    let old = c.args.self.now in
    let x : Parts _ _ _ = record old { log = c.reserve.new.self } in
    let script = c.args.script.now in
    let m = g.m in
    let process = c.args.p in
    let act : Act = c.args.act in
    let y = c.index.result.now in
    let mine = c.unwrap-running.result.now in
    let begun : y.call ≡ Some mine = sym c.as_ref.ensures.value ∙ ap (λ (o : _). option_copied o) c.unwrap-running.ensures in
    let r : Ready g.T.Tables script x m process y mine act =
    ready_for script old m process c.get-2.result y mine act c.reserve.new.self c.requires.1.1.1.0 c.requires.1.1.1.1.0 c.requires.1.1.1.1.1.0
    c.get-2.ensures.value
    c.index.ensures begun c.reserve.ensures.same.entries in
    let p : Place = place script x m process y mine act r in
    let called = call_of_script script x m process y mine act r c.at.result (c.at.ensures y r.here.there) in
    let call : p.call ≡ c.call_at-call.result.now = same_Some p.call c.call_at-call.result.now (sym called.0 ∙ c.call_at-call.ensures) in
    let at = (call_of_script script x m process y mine act r c.at-2.result (c.at-2.ensures y r.here.there)).1 in
    let e : Entry = c.in_ok-entry.entry in
    let adds : AddsHere r.v m p act e =
    adds_made script x m process y mine act r c.call_at-call.result.now c.at-2.result e c.requires.1.1.1.1.1.1 call at c.in_ok-entry.ensures in
    let d : DiskState = c.change.new.self in
    let it : ScriptProcess = c.index-as_slice-get.result in
    let uid : ℕ = (get_or c.as_slice.result.now c.get.result it).uid in
    let user = user_read script x m process c.get.result c.as_slice.result.now it r.here.shows
    (in_script script old m process c.requires.1.1.1.0 c.requires.1.1.1.1.0) c.as_slice.ensures c.get.ensures.value c.index-as_slice-get.is
    ∙ ap (λ (q : ScriptProcess). q.uid) c.index-as_slice-get.is in
    let changed : IsDiskOf d (after_change m.store e) = changed_is script x m process y mine act r e adds d uid c.in_ok-change.ensures.effect user in
    let z : Parts _ _ _ = c.note.new.self in
    let held : Option ℕ = c.file_to_hold-held.result in
    let held_is = hold_kept script x m process y mine act r c.call_at-call.result.now c.row_of-row.result (row_of_entry e) held call
    c.row_of-row.ensures c.file_to_hold-held.ensures in
    let t : Parts _ _ _ = c.change_tables.new.self in
    let same : t ≡ record z { tables = t.tables } = c.change_tables.ensures.same in
    let log : LogState = c.add.new.self in
    let told : t.log ≡ x.log = ap (λ (w : Parts _ _ _). w.log) same ∙ c.note.ensures.log in
    let carried : Carried script x m process y mine act r e adds d z t.tables log held =
    record {
      changed = changed;
      same_holds = c.in_ok-change.ensures.held;
      noted = c.note.ensures;
      tables_are = c.change_tables.ensures.shown;
      passes = c.change_tables.ensures.passes;
      entries = c.add.ensures.entries ∙ ap (λ (l : LogState). l.entries ++ e ∷ []) told;
      held_is = held_is;
    } in
    let parts : Parts _ _ _ = held_parts script x m process y mine act r e adds d z t.tables log held carried in
    let is : c.hold.new.self ≡ parts = c.hold.ensures ∙ ap (λ (w : Parts _ _ _). with_hold (record w { log = log }) process held) same in
    let there = begun_there old process c.requires.1.1.1.1.0 in
    let shows = r.here.shows in
    let first : length c.hold.new.self.disk.held ≡ length parts.disk.held = ap (λ (w : Parts _ _ _). length w.disk.held) is in
    let set = length-set z.disk.held process held in
    let noted : length z.disk.held ≡ length d.held = ap (λ (l : List (Option ℕ)). length l) c.note.ensures.held in
    let was : length d.held ≡ length x.disk.held = ap (λ (l : List (Option ℕ)). length l) c.in_ok-change.ensures.held in
    omega (arith, there, shows.count, shows.holders, first, set, noted, was)

pub end_turn-requires-clause-few : goal.end_turn-requires-clause-few
end_turn-requires-clause-few g c =
    let old = c.args.self.now in
    let x : Parts _ _ _ = record old { log = c.reserve.new.self } in
    let script = c.args.script.now in
    let m = g.m in
    let process = c.args.p in
    let act : Act = c.args.act in
    let y = c.index.result.now in
    let mine = c.unwrap-running.result.now in
    let begun : y.call ≡ Some mine = sym c.as_ref.ensures.value ∙ ap (λ (o : _). option_copied o) c.unwrap-running.ensures in
    let r : Ready g.T.Tables script x m process y mine act =
    ready_for script old m process c.get-2.result y mine act c.reserve.new.self c.requires.1.1.1.0 c.requires.1.1.1.1.0 c.requires.1.1.1.1.1.0
    c.get-2.ensures.value
    c.index.ensures begun c.reserve.ensures.same.entries in
    let p : Place = place script x m process y mine act r in
    let called = call_of_script script x m process y mine act r c.at.result (c.at.ensures y r.here.there) in
    let call : p.call ≡ c.call_at-call.result.now = same_Some p.call c.call_at-call.result.now (sym called.0 ∙ c.call_at-call.ensures) in
    let at = (call_of_script script x m process y mine act r c.at-2.result (c.at-2.ensures y r.here.there)).1 in
    let e : Entry = c.in_ok-entry.entry in
    let adds : AddsHere r.v m p act e =
    adds_made script x m process y mine act r c.call_at-call.result.now c.at-2.result e c.requires.1.1.1.1.1.1 call at c.in_ok-entry.ensures in
    let d : DiskState = c.change.new.self in
    let it : ScriptProcess = c.index-as_slice-get.result in
    let uid : ℕ = (get_or c.as_slice.result.now c.get.result it).uid in
    let user = user_read script x m process c.get.result c.as_slice.result.now it r.here.shows
    (in_script script old m process c.requires.1.1.1.0 c.requires.1.1.1.1.0) c.as_slice.ensures c.get.ensures.value c.index-as_slice-get.is
    ∙ ap (λ (q : ScriptProcess). q.uid) c.index-as_slice-get.is in
    let changed : IsDiskOf d (after_change m.store e) = changed_is script x m process y mine act r e adds d uid c.in_ok-change.ensures.effect user in
    let z : Parts _ _ _ = c.note.new.self in
    let held : Option ℕ = c.file_to_hold-held.result in
    let held_is = hold_kept script x m process y mine act r c.call_at-call.result.now c.row_of-row.result (row_of_entry e) held call
    c.row_of-row.ensures c.file_to_hold-held.ensures in
    let t : Parts _ _ _ = c.change_tables.new.self in
    let same : t ≡ record z { tables = t.tables } = c.change_tables.ensures.same in
    let log : LogState = c.add.new.self in
    let told : t.log ≡ x.log = ap (λ (w : Parts _ _ _). w.log) same ∙ c.note.ensures.log in
    let carried : Carried script x m process y mine act r e adds d z t.tables log held =
    record {
      changed = changed;
      same_holds = c.in_ok-change.ensures.held;
      noted = c.note.ensures;
      tables_are = c.change_tables.ensures.shown;
      passes = c.change_tables.ensures.passes;
      entries = c.add.ensures.entries ∙ ap (λ (l : LogState). l.entries ++ e ∷ []) told;
      held_is = held_is;
    } in
    let parts : Parts _ _ _ = held_parts script x m process y mine act r e adds d z t.tables log held carried in
    let is : c.hold.new.self ≡ parts = c.hold.ensures ∙ ap (λ (w : Parts _ _ _). with_hold (record w { log = log }) process held) same in
    subst (λ (w : Parts _ _ _). AreFew w process) (sym is) (few_held script x m process y mine act r e adds d z t.tables log held carried)

pub returns-clause-ok : goal.returns-clause-ok
returns-clause-ok g c =
    let old = c.args.self.now in
    let x : Parts _ _ _ = record old { log = c.reserve.new.self } in
    let script = c.args.script.now in
    let m = g.m in
    let process = c.args.p in
    let act : Act = c.args.act in
    let y = c.index.result.now in
    let mine = c.unwrap-running.result.now in
    let begun : y.call ≡ Some mine = sym c.as_ref.ensures.value ∙ ap (λ (o : _). option_copied o) c.unwrap-running.ensures in
    let r : Ready g.T.Tables script x m process y mine act =
    ready_for script old m process c.get-2.result y mine act c.reserve.new.self c.requires.1.1.1.0 c.requires.1.1.1.1.0 c.requires.1.1.1.1.1.0
    c.get-2.ensures.value
    c.index.ensures begun c.reserve.ensures.same.entries in
    let p : Place = place script x m process y mine act r in
    let called = call_of_script script x m process y mine act r c.at.result (c.at.ensures y r.here.there) in
    let call : p.call ≡ c.call_at-call.result.now = same_Some p.call c.call_at-call.result.now (sym called.0 ∙ c.call_at-call.ensures) in
    let at = (call_of_script script x m process y mine act r c.at-2.result (c.at-2.ensures y r.here.there)).1 in
    let e : Entry = c.in_ok-entry.entry in
    let adds : AddsHere r.v m p act e =
    adds_made script x m process y mine act r c.call_at-call.result.now c.at-2.result e c.requires.1.1.1.1.1.1 call at c.in_ok-entry.ensures in
    let d : DiskState = c.change.new.self in
    let it : ScriptProcess = c.index-as_slice-get.result in
    let uid : ℕ = (get_or c.as_slice.result.now c.get.result it).uid in
    let user = user_read script x m process c.get.result c.as_slice.result.now it r.here.shows
    (in_script script old m process c.requires.1.1.1.0 c.requires.1.1.1.1.0) c.as_slice.ensures c.get.ensures.value c.index-as_slice-get.is
    ∙ ap (λ (q : ScriptProcess). q.uid) c.index-as_slice-get.is in
    let changed : IsDiskOf d (after_change m.store e) = changed_is script x m process y mine act r e adds d uid c.in_ok-change.ensures.effect user in
    let z : Parts _ _ _ = c.note.new.self in
    let held : Option ℕ = c.file_to_hold-held.result in
    let held_is = hold_kept script x m process y mine act r c.call_at-call.result.now c.row_of-row.result (row_of_entry e) held call
    c.row_of-row.ensures c.file_to_hold-held.ensures in
    let t : Parts _ _ _ = c.change_tables.new.self in
    let same : t ≡ record z { tables = t.tables } = c.change_tables.ensures.same in
    let log : LogState = c.add.new.self in
    let told : t.log ≡ x.log = ap (λ (w : Parts _ _ _). w.log) same ∙ c.note.ensures.log in
    let carried : Carried script x m process y mine act r e adds d z t.tables log held =
    record {
      changed = changed;
      same_holds = c.in_ok-change.ensures.held;
      noted = c.note.ensures;
      tables_are = c.change_tables.ensures.shown;
      passes = c.change_tables.ensures.passes;
      entries = c.add.ensures.entries ∙ ap (λ (l : LogState). l.entries ++ e ∷ []) told;
      held_is = held_is;
    } in
    let parts : Parts _ _ _ = held_parts script x m process y mine act r e adds d z t.tables log held carried in
    let is : c.hold.new.self ≡ parts = c.hold.ensures ∙ ap (λ (w : Parts _ _ _). with_hold (record w { log = log }) process held) same in
    let new : Parts _ _ _ = c.end_turn.new.self in
    let ends : EndsTurn parts new process process (row_of_entry e) =
    subst (λ (w : Parts _ _ _). EndsTurn w new process process (row_of_entry e)) is
    (subst (λ (a : ℕ). EndsTurn c.hold.new.self new process a (row_of_entry e)) c.processor.ensures
    (subst (λ (row : Row). EndsTurn c.hold.new.self new process c.processor.result row) c.row_of-row.ensures c.end_turn.ensures.ends)) in
    let events : log.events ≡ old.log.events = c.add.ensures.events ∙ ap (λ (l : LogState). l.events) told ∙ c.reserve.ensures.same.events in
    let turns : log.turns ≡ old.log.turns = c.add.ensures.turns ∙ ap (λ (l : LogState). l.turns) told ∙ c.reserve.ensures.same.turns in
    subst (λ (turn : Turn). TookTurn g.T.Tables script old new m process turn) (sym (c.end_turn.ensures.answer ∙ ap Did c.row_of-row.ensures))
    (took_entry script x m process y mine act r e adds d z t.tables log held carried old new events turns ends)
