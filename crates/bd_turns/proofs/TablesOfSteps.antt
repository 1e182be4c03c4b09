-- The tables and the store through each step of a device engine.
use Rattle.std.proofs.Common.{◌≡◌, ℕ, false, Some, refl, sym, ap, ◌∙◌, subst}
use Rattle.std.specs.Option.{option_and_then, option_map}
use Rattle.std.specs.FinMap as fin
use Rattle.std.proofs.lemmas.Option.{same_Some}
use Rattle.bd_base.specs.declared.volume.Volume.{Volume}
use Rattle.bd_base.specs.Pieces.{Piece}
use Rattle.bd_entry.specs.declared.entry.Entry.{Entry}
use Rattle.bd_entry.specs.declared.entry.Entry.TheVariants as entries
use Rattle.bd_entry.specs.Calls.{Place, fd_of, piece_of_call}
use Rattle.bd_entry.specs.Effects.{effect_of}
use Rattle.bd_entry.specs.Rules.{place_in}
use Rattle.bd_entry.specs.Store.{Store, Valid, descriptor_at}
use Rattle.bd_entry.proofs.NextActs.{map_from, then_from}
use Rattle.bd_lines.specs.Lines.{hit}
use Rattle.bd_tables.specs.declared.request.Request.{Request}
use Rattle.bd_tables.specs.declared.state.Walk.{Walk}
use Rattle.bd_tables.specs.declared.state.Walk.TheVariants.{Idle, Entered, Translated}
use Rattle.bd_tables.specs.Effects.{entered_walk, looked_walk, read_walk, with_walk}
use Rattle.bd_tables.specs.Sound.{Allows, IsSound, OnRight, granted_of}
use Rattle.bd_tables.specs.State.{TableState, found_entering, lookup, told_of, walk_at}
use Rattle.bd_tables.proofs.Sound.{enter_keeps, fill_keeps, look_keeps, read_keeps, retire_keeps}
use Rattle.bd_turns.specs.Added.{EntriesAreNext, IsAdded, by_engine}
use Rattle.bd_turns.specs.Engines.{Step, engine_step, move_entry, move_entry_of, request_for, request_of_piece}
use Rattle.bd_turns.specs.Sound.{IsWalkAt, IsWalkFor}
use Rattle.bd_turns.specs.State.{InHand, Phase, State, Looking, Reading, Filling, progress_of, running}
use Rattle.bd_turns.specs.Turns.{after_step}
use Rattle.bd_turns.proofs.AddedEntries.{added_keeps}
use Rattle.bd_turns.proofs.CellsOfFiles.{DoesNotGrow, IsOfProcess}
use Rattle.bd_turns.proofs.EngineSteps.{IsStep, enters, looks, reads, fills, moves, misses, retires, completes}
use Rattle.bd_turns.proofs.FilesOfRights.{keeps_files}
use Rattle.bd_turns.proofs.RightsSteps.{all_fit_after, all_fit_untouched, touches_rights}
use Rattle.bd_turns.proofs.TablesOfEngines.{RefusedOpen, entered_open, looked_open, never_refused, open_with_walk, read_open}
use Rattle.bd_turns.proofs.TablesOfEntries.{AreTablesOf, same_tables}

-- ---- requests

-- the request of a piece is for the call's descriptor and that piece
pub record IsRequest (p : Place) (number : ℕ) (request : Request) : Type 0 where
  pub fd : ℕ
  pub piece : Piece
  pub fd_is : fd_of p ≡ Some fd
  pub piece_is : piece_of_call p.call number ≡ Some piece
  pub request_is : request_for p fd piece ≡ request

pub is_request : (p : Place) (number : ℕ) (request : Request) → request_of_piece p number ≡ Some request → IsRequest p number request
is_request p number request is =
    let of_fd = then_from (λ fd. option_map (request_for p fd) (piece_of_call p.call number)) (fd_of p) request is in
    let of_piece = map_from (request_for p of_fd.0) (piece_of_call p.call number) request of_fd.2 in
    record { fd = of_fd.0; piece = of_piece.0; fd_is = of_fd.1; piece_is = of_piece.1; request_is = of_piece.2 }

-- its key is of the call's process
pub request_process : (p : Place) (number : ℕ) (request : Request) → request_of_piece p number ≡ Some request → request.key.process ≡ p.at.process
request_process p number request is = let of = is_request p number request is in sym (ap (λ (r : Request). r.key.process) of.request_is)

-- where the walk of an engine is that goes on so with the request of its piece
pub walk_of : (m : State) (p : Place) (hand : InHand) (phase : Phase) (request : Request) → IsWalkFor m p hand → hand.phase ≡ phase →
    request_of_piece p hand.piece ≡ Some request → IsWalkAt phase request m.tables p.at.process
walk_of m p hand phase request walks phase_is is =
    subst (λ (x : Phase). IsWalkAt x request m.tables p.at.process) phase_is
    (subst (λ (r : Request). IsWalkAt hand.phase r m.tables p.at.process) (same_Some walks.request request (sym walks.of_piece ∙ is)) walks.walk)

-- ---- a walk that changes

tables_with_walk : (s : Store) (tables : TableState) (process : ℕ) (walk : Walk) → IsSound (with_walk tables process walk) →
    RefusedOpen tables.rights walk → AreTablesOf s tables → AreTablesOf s (with_walk tables process walk)
tables_with_walk s tables process walk sound opened are = record {
  fit = are.fit;
  cells = are.cells;
  marks = are.marks;
  sound = sound;
  open_keys = open_with_walk tables.rights tables.walks process walk opened are.open_keys;
}

-- who is granted has a right that allows the request
pub allowed_at : (tables : TableState) → IsSound tables → (process : ℕ) (request : Request) → walk_at tables.walks process ≡ Entered request →
    OnRight (Allows request) (fin.get tables.rights request.key)
allowed_at tables sound process request is = sound.granted process request (ap granted_of is)

-- ---- the entries of engines

-- an entry that changes no right, and no file with rights
pub record IsPlain (e : Entry) : Type 0 where
  pub rights : touches_rights e ≡ false
  pub still : (s : Store) (p : Place) (id : ℕ) → DoesNotGrow s p id e
  pub of : (p : Place) → IsOfProcess p e

pub move_is_plain : (s : Store) (p : Place) (number block : ℕ) (e : Entry) → move_entry_of s p number block ≡ Some e → IsPlain e
move_is_plain s p number block e is =
    let fd = then_from
    (λ fd. option_and_then (λ piece. option_map (move_entry s p number fd piece block) (descriptor_at s p.at.process fd)) (piece_of_call p.call number))
    (fd_of p) e is in
    let piece = then_from (λ piece. option_map (move_entry s p number fd.0 piece block) (descriptor_at s p.at.process fd.0))
    (piece_of_call p.call number) e fd.2 in
    let d = map_from (move_entry s p number fd.0 piece.0 block) (descriptor_at s p.at.process fd.0) e piece.2 in
    subst IsPlain d.2 (record { rights = refl; still = λ s p id. tt; of = λ p. tt })

pub tables_of_plain : (v : Volume) (m : State) (p : Place) (e : Entry) → IsAdded v m p e → IsPlain e → Valid m.store →
    AreTablesOf m.store m.tables → AreTablesOf (effect_of m.store (place_in m.store p.call p.at) e) m.tables
tables_of_plain v m p e added plain valid are =
    let place = place_in m.store p.call p.at in
    same_tables m.store (effect_of m.store place e) m.tables
    (all_fit_after m.tables.rights m.store place e (all_fit_untouched m.tables.rights m.store e plain.rights are.fit))
    (keeps_files m.tables.rights m.store p place e valid are.fit (added_keeps v m p e added) (plain.of p)
    (λ key right is. plain.still m.store p right.file))
    are

-- ---- the steps

-- a step keeps the tables
abbrev KeepsTables : State → Place → Step → Type 0
KeepsTables m p step = AreTablesOf (after_step m p step).store (after_step m p step).tables

pub tables_after_step : (v : Volume) (m : State) (p : Place) (step : Step) → EntriesAreNext v m → running m p.at.process ≡ Some p →
    engine_step m p ≡ Some step → IsStep m p step → Valid m.store →
    ((hand : InHand) → (progress_of m p.at.process).hand ≡ Some hand → IsWalkFor m p hand) →
    AreTablesOf m.store m.tables → AreTablesOf (after_step m p step).store (after_step m p step).tables
tables_after_step v m p step next running_is acting (enters number rest request none waiting of_piece is) valid hands are =
    subst (KeepsTables m p) (sym is)
    (tables_with_walk m.store m.tables request.key.process
    (entered_walk request (found_entering (fin.get m.tables.rights request.key) request.write))
    (enter_keeps m.tables are.sound request) (entered_open m.tables.rights request) are)
tables_after_step v m p step next running_is acting (looks hand request in_hand phase of_piece is) valid hands are =
    let at : walk_at m.tables.walks request.key.process ≡ Entered request =
    ap (walk_at m.tables.walks) (request_process p hand.piece request of_piece)
    ∙ walk_of m p hand Looking request (hands hand in_hand) phase of_piece in
    subst (KeepsTables m p) (sym is)
    (tables_with_walk m.store m.tables request.key.process
    (looked_walk request (hit m.tables.lines request.key request.index request.hi))
    (look_keeps m.tables are.sound request at) (looked_open m.tables.rights request _) are)
tables_after_step v m p step next running_is acting (reads hand request in_hand phase of_piece is) valid hands are =
    let at : walk_at m.tables.walks request.key.process ≡ Entered request =
    ap (walk_at m.tables.walks) (request_process p hand.piece request of_piece)
    ∙ walk_of m p hand Reading request (hands hand in_hand) phase of_piece in
    subst (KeepsTables m p) (sym is)
    (tables_with_walk m.store m.tables request.key.process
    (read_walk request (lookup m.tables request.key request.index))
    (read_keeps m.tables are.sound request at)
    (read_open m.tables.rights request _ (allowed_at m.tables are.sound request.key.process request at)) are)
tables_after_step v m p step next running_is acting (fills hand request completion in_hand phase of_piece told is) valid hands are =
    let translated = walk_of m p hand Filling request (hands hand in_hand) phase of_piece in
    let one : translated.0 ≡ completion = same_Some translated.0 completion (sym (ap told_of translated.1) ∙ told) in
    let at : walk_at m.tables.walks p.at.process ≡ Translated request completion = translated.1 ∙ ap (Translated request) one in
    subst (KeepsTables m p) (sym is)
    (record {
      fit = are.fit;
      cells = are.cells;
      marks = are.marks;
      sound = fill_keeps m.tables are.sound p.at.process request completion at;
      open_keys = are.open_keys;
    })
tables_after_step v m p step next running_is acting (moves hand completion entry in_hand phase told entry_is is) valid hands are =
    let added = next p entry (by_engine step running_is acting (ap (λ (x : Step). x.entry) is)) in
    subst (KeepsTables m p) (sym is)
    (tables_of_plain v m p entry added (move_is_plain m.store p hand.piece completion.block entry entry_is) valid are)
tables_after_step v m p step next running_is acting (misses hand found in_hand phase found_is is) valid hands are =
    let entry = entries.Missed p.at hand.piece found in
    let added = next p entry (by_engine step running_is acting (ap (λ (x : Step). x.entry) is)) in
    subst (KeepsTables m p) (sym is)
    (tables_of_plain v m p entry added (record { rights = refl; still = λ s p id. tt; of = λ p. tt }) valid are)
tables_after_step v m p step next running_is acting (retires hand in_hand phase is) valid hands are =
    subst (KeepsTables m p) (sym is)
    (tables_with_walk m.store m.tables p.at.process Idle (retire_keeps m.tables are.sound p.at.process) (never_refused m.tables.rights Idle refl) are)
tables_after_step v m p step next running_is acting (completes hand in_hand phase is) valid hands are =
    subst (KeepsTables m p) (sym is) are
