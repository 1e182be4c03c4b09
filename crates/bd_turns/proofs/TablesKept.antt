-- Every turn of any actor keeps the tables and the engines sound.
use Rattle.std.proofs.Common.{◌≡◌, ℕ, ◌<◌, true, false, length, drop, Some, refl, sym, ap, ◌∙◌, subst}
use Rattle.std.specs.FinMap as fin
use Rattle.std.proofs.lemmas.Bool.{both_ways}
use Rattle.std.proofs.lemmas.Option.{none-some}
use Rattle.bd_base.specs.declared.journal.At.{At}
use Rattle.bd_base.specs.declared.key.Key.{Key}
use Rattle.bd_base.specs.declared.script.Call.{Call}
use Rattle.bd_base.specs.declared.script.Call.TheVariants.{Read, Write, RawRead, RawWrite}
use Rattle.bd_base.specs.declared.volume.Volume.{Volume}
use Rattle.bd_base.specs.Pieces.{Piece}
use Rattle.bd_entry.specs.declared.entry.Entry.{Entry}
use Rattle.bd_entry.specs.declared.entry.Entry.TheVariants.{Detached}
use Rattle.bd_entry.specs.Calls.{Place, is_made_by, piece_of_call}
use Rattle.bd_entry.proofs.HistoryLaws.{is_call, process_there}
use Rattle.bd_tables.specs.Sound.{IsOpen, OnRight}
use Rattle.bd_tables.specs.State.{TableState}
use Rattle.bd_turns.specs.Added.{EntriesAreNext, IsAdded, by_invalidation, by_processor}
use Rattle.bd_turns.specs.declared.turn.Row.{Row}
use Rattle.bd_turns.specs.Engines as engines
use Rattle.bd_turns.specs.Processors as processors
use Rattle.bd_turns.specs.Reached.{IsReached}
use Rattle.bd_turns.proofs.Columns.{TurnsKeepTables}
use Rattle.bd_turns.specs.Sound.{AreLinesOfParts, AreTablesSound, IsIdleWithout, MayNote}
use Rattle.bd_turns.specs.State.{InHand, Posted, State, progress_of, running}
use Rattle.bd_turns.specs.Turns.{after_adding, after_effect, after_ending, after_polling, after_posting, after_step, after_submitting, after_turn, with_entry}
use Rattle.bd_turns.proofs.AddedEntries.{added_of_call, adds_from, is_detach, processors_detach_nothing}
use Rattle.bd_turns.proofs.Cases.{Effective, Leads, acts, adds, changes, ends, polls, posts, stays, steps, submits, turn_leads}
use Rattle.bd_turns.proofs.CellsOfPairs.{lookups_of_cells, whole_of_cells}
use Rattle.bd_turns.proofs.EngineSteps.{IsChange, IsEnd, changes_of, drains, end_of, engine_steps, sweeps}
use Rattle.bd_turns.proofs.FindsKept.{Detaches}
use Rattle.bd_turns.proofs.RunningPlaces.{runs_at}
use Rattle.bd_turns.proofs.HandsKept.{AreWalking, IsCalm, calm_adding, calm_effect, calm_polling, calm_posting, calm_submitting, idle_calm, walking_calm}
use Rattle.bd_turns.proofs.HandsOfSteps.{idle_after_step, steps_hand, steps_to, walking_after_step}
use Rattle.bd_turns.proofs.LinesKept.{lines_after_change, lines_after_step, tables_after-lines}
use Rattle.bd_turns.proofs.NotableKept.{notable_after_step, notable_calm, notable_calm_entry}
use Rattle.bd_turns.proofs.NotableSteps.{Noting}
use Rattle.bd_turns.proofs.PieceCalls.{has_pieces, pieces_attach_nothing}
use Rattle.bd_turns.proofs.QuietProcessors.{quiet_with_hand}
use Rattle.bd_turns.proofs.RightsFit.{key_at, rights_of_fit}
use Rattle.bd_turns.proofs.TablesOfEngines.{tables_after_change, tables_after_ending}
use Rattle.bd_turns.proofs.TablesOfEntries.{AreTablesOf, tables_after_adding, tables_of}
use Rattle.bd_turns.proofs.TablesOfSteps.{is_request, tables_after_step}

-- ---- the column in parts

-- the tables and the engines are sound
are_sound : (m : State) → AreTablesOf m.store m.tables → AreLinesOfParts m.tables.lines → AreWalking m → IsIdleWithout m → MayNote m →
    AreTablesSound m
are_sound m are lines walking idle notable = record {
  rights = rights_of_fit m are.fit;
  lookups = lookups_of_cells m are.cells;
  whole = whole_of_cells m are.cells;
  used = are.cells.used;
  lines = lines;
  marked = are.marks;
  tables = are.sound;
  hands = walking;
  idle = idle;
  notable = notable;
  open_keys = are.open_keys;
}

-- after a calm turn
calm_sound : (m next : State) → IsCalm m next → AreTablesSound m → AreTablesOf next.store next.tables → AreLinesOfParts next.tables.lines →
    MayNote next → AreTablesSound next
calm_sound m next calm sound are lines notable =
    are_sound next are lines (walking_calm m next calm sound.hands) (idle_calm m next calm sound.idle) notable

-- a process is one of those that have a walk and a progress
within_walks : (v : Volume) (m : State) (p : Place) → IsReached v m → running m p.at.process ≡ Some p → p.at.process < length m.tables.walks
within_walks v m p reached running_is =
    let there = process_there m.script p.at p.call (runs_at m p.at.process p running_is).called in
    subst (λ (n : ℕ). p.at.process < n) (sym reached.sound.calls.processes.walks) there

within_processes : (v : Volume) (m : State) (p : Place) → IsReached v m → running m p.at.process ≡ Some p → p.at.process < length m.processes
within_processes v m p reached running_is =
    let there = process_there m.script p.at p.call (runs_at m p.at.process p running_is).called in
    subst (λ (n : ℕ). p.at.process < n) (sym reached.sound.calls.processes.progress) there

-- ---- entries of processors

-- a process that adds an entry has no command in its engine's hand
no_hand : (v : Volume) (m : State) (p : Place) (row : Row) (e : Entry) → IsReached v m → running m p.at.process ≡ Some p →
    processors.next_action m p ≡ Some (processors.Adds row e) → (hand : InHand) → (progress_of m p.at.process).hand ≡ Some hand → ⊥
no_hand v m p row e reached running_is acting hand held =
    let walks = reached.sound.tables_are.hands p.at.process p hand running_is held in
    let of = is_request p hand.piece walks.request walks.of_piece in
    quiet_with_hand m p hand (processors.Adds row e) held (has_pieces p.call hand.piece of.piece of.piece_is) acting

-- an entry that detaches is a detach
detach_is : (key : Key) (e : Entry) → Detaches key e → is_detach e ≡ true
detach_is key (Detached at owner fd part) detaches = refl
detach_is key e detaches = absurd detaches

sound_adding : (v : Volume) (m : State) (p : Place) (row : Row) (e : Entry) → IsReached v m → EntriesAreNext v m → running m p.at.process ≡ Some p →
    processors.next_action m p ≡ Some (processors.Adds row e) → AreTablesSound (after_adding m p row e)
sound_adding v m p row e reached next running_is acting =
    let sound = reached.sound.tables_are in
    let calls = reached.sound.calls in
    let added = next p e (by_processor row running_is acting) in
    let are = tables_of m sound in
    let calm = calm_adding m p row e in
    calm_sound m (after_adding m p row e) calm sound (tables_after_adding v m p row e added acting calls.valid calls.limits are)
    (subst AreLinesOfParts (sym (tables_after-lines (with_entry m p.call e p.at).store m.tables e)) sound.lines)
    (notable_calm_entry v m (after_adding m p row e) p e calm refl added calls.valid sound.hands sound.open_keys
    (no_hand v m p row e reached running_is acting)
    (λ key on detaches. both_ways (is_detach e) (processors_detach_nothing m p e (adds_from m p row e acting)) (detach_is key e detaches))
    sound.notable)

-- ---- the steps of engines

sound_step : (v : Volume) (m : State) (p : Place) (step : _) → IsReached v m → EntriesAreNext v m → running m p.at.process ≡ Some p →
    engines.engine_step m p ≡ Some step → AreTablesSound (after_step m p step)
sound_step v m p step reached next running_is acting =
    let sound = reached.sound.tables_are in
    let calls = reached.sound.calls in
    let are = tables_of m sound in
    let is = engine_steps m p step acting in
    let there = within_walks v m p reached running_is in
    let hands = λ (hand : InHand) (held : (progress_of m p.at.process).hand ≡ Some hand). sound.hands p.at.process p hand running_is held in
    let steps = steps_hand m p step is there hands in
    let to = steps_to m p step steps (within_processes v m p reached running_is) in
    let place = runs_at m p.at.process p running_is in
    let noting : Noting v m p = record {
      tables = are;
      lookups = sound.lookups;
      valid = calls.valid;
      within = is_call m.script p.at p.call calls.limits place.called;
      there = there;
      hands = hands;
      fresh = λ number fd piece piece_is. pieces_attach_nothing v m p number fd piece reached.history calls.in_turn running_is piece_is;
    } in
    are_sound (after_step m p step)
    (tables_after_step v m p step next running_is acting is calls.valid hands are)
    (lines_after_step m p step is sound.lines)
    (walking_after_step m p step running_is steps to sound.hands)
    (idle_after_step m p step steps to sound.idle)
    (notable_after_step v m p step next running_is acting is steps to noting sound.hands sound.notable)

-- ---- the invalidation engine

change_walks : (m : State) (after : TableState) → IsChange m.tables m.posted after → after.walks ≡ m.tables.walks
change_walks m after (drains post rest right posted attached cleared nobody is) = ap (λ (t : TableState). t.walks) is
change_walks m after (sweeps post rest right swept line posted attached drained next is) = ap (λ (t : TableState). t.walks) is

sound_change : (v : Volume) (m : State) (p : Place) (after : TableState) → IsReached v m → IsChange m.tables m.posted after →
    AreTablesSound (after_effect (record m { tables = after }) p)
sound_change v m p after reached change =
    let sound = reached.sound.tables_are in
    let base = record m { tables = after } in
    let calm = calm_effect m base p (record { script = refl; processes = refl; walks = change_walks m after change }) in
    calm_sound m (after_effect base p) calm sound (tables_after_change m after change (tables_of m sound))
    (lines_after_change m.tables m.posted after change sound.lines)
    (notable_calm m (after_effect base p) calm refl sound.notable)

-- a call with pieces detaches nothing
pieces_detach_nothing : (call : Call) (number : ℕ) (piece : Piece) (at : At) (owner fd part : ℕ) → piece_of_call call number ≡ Some piece →
    is_made_by call (Detached at owner fd part) ≡ false
pieces_detach_nothing (Read named off len) number piece at owner fd part is = refl
pieces_detach_nothing (Write named off bytes) number piece at owner fd part is = refl
pieces_detach_nothing (RawRead address range) number piece at owner fd part is = refl
pieces_detach_nothing (RawWrite address lo bytes) number piece at owner fd part is = refl
pieces_detach_nothing call number piece at owner fd part is = absurd (none-some piece is)

sound_ending : (v : Volume) (m : State) (p : Place) (e : Entry) (after : TableState) → IsReached v m → IsAdded v m p e →
    IsEnd m.tables m.posted e after → AreTablesSound (after_ending m p e after)
sound_ending v m p e after reached added end =
    let sound = reached.sound.tables_are in
    let calls = reached.sound.calls in
    let key = end.post.key in
    let base = record (with_entry m p.call e p.at) { tables = after; posted = drop 1 m.posted } in
    let calm = calm_effect m base p
    (record { script = refl; processes = refl; walks = ap (λ (t : TableState). t.walks) end.after_is }) in
    calm_sound m (after_ending m p e after) calm sound (tables_after_ending v m p e after added end calls.valid (tables_of m sound))
    (subst (λ (t : TableState). AreLinesOfParts t.lines) (sym end.after_is) sound.lines)
    (notable_calm_entry v m (after_ending m p e after) p e calm refl added calls.valid sound.hands sound.open_keys
    (λ hand held.
    let walks = sound.hands p.at.process p hand added.running_is held in
    let of = is_request p hand.piece walks.request walks.of_piece in
    let made : is_made_by p.call (Detached end.post.by key.process key.fd key.part) ≡ true =
    ap (is_made_by p.call) (sym end.entry_is) ∙ (added_of_call v m p e added).kind in
    both_ways (is_made_by p.call (Detached end.post.by key.process key.fd key.part))
    (pieces_detach_nothing p.call hand.piece of.piece end.post.by key.process key.fd key.part of.piece_is) made)
    (λ other on detaches.
    let same : other ≡ key_at key.process key.fd key.part = subst (Detaches other) end.entry_is detaches in
    let here = subst (λ (k : Key). OnRight (λ right. IsOpen right.state) (fin.get m.tables.rights k)) same on in
    let there = subst (OnRight (λ right. IsOpen right.state)) end.attached here in
    subst IsOpen end.drained there)
    sound.notable)

-- ---- all turns

effective_sound : (v : Volume) (m next : State) → IsReached v m → EntriesAreNext v m → Effective m next → AreTablesSound next
effective_sound v m _ reached next (adds p row entry running_is acting) = sound_adding v m p row entry reached next running_is acting
effective_sound v m _ reached next (posts p key running_is acting) =
    let sound = reached.sound.tables_are in
    let post : Posted = record { key = key; by = p.at } in
    let calm = calm_posting m p post in
    calm_sound m (after_posting m p post) calm sound (tables_of m sound) sound.lines (notable_calm m (after_posting m p post) calm refl sound.notable)
effective_sound v m _ reached next (submits p piece running_is acting) =
    let sound = reached.sound.tables_are in
    let calm = calm_submitting m p piece in
    calm_sound m (after_submitting m p piece) calm sound (tables_of m sound) sound.lines (notable_calm m (after_submitting m p piece) calm refl sound.notable)
effective_sound v m _ reached next (polls p running_is acting) =
    let sound = reached.sound.tables_are in
    let calm = calm_polling m p in
    calm_sound m (after_polling m p) calm sound (tables_of m sound) sound.lines (notable_calm m (after_polling m p) calm refl sound.notable)
effective_sound v m _ reached next (steps p step running_is acting) = sound_step v m p step reached next running_is acting
effective_sound v m _ reached next (changes p row tables posting acting) =
    sound_change v m p tables reached (changes_of m.tables m.posted row tables acting)
effective_sound v m _ reached next (ends p entry tables posting acting) =
    sound_ending v m p entry tables reached (next p entry (by_invalidation tables posting acting)) (end_of m.tables m.posted entry tables acting)

leads_sound : (v : Volume) (m next : State) → IsReached v m → EntriesAreNext v m → Leads m next → AreTablesSound next
leads_sound v m next reached next_are (stays same) = subst AreTablesSound (sym same) reached.sound.tables_are
leads_sound v m next reached next_are (acts effective) = effective_sound v m next reached next_are effective

-- every turn keeps the tables and the engines sound
pub tables_kept : TurnsKeepTables
tables_kept v m actor reached next is_actor = leads_sound v m (after_turn m actor) reached next (turn_leads m actor)
