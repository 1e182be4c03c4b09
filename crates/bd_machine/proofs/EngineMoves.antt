-- The step of an engine that moves the bytes of a command.
use Rattle.std.proofs.Common.{◌≡◌, ℕ, ◌<◌, false, Option, Some, refl, sym, ap, ◌∙◌, subst, get_or, length, List}
use Rattle.std.specs.Prelude.{slice_index_or, IfSome}
use Rattle.std.specs.Option.{option_and_then, option_map, unwrap_or}
use Rattle.std.proofs.lemmas.List.{get_or-map}
use Rattle.std.proofs.lemmas.Option.{same_Some}
use Rattle.bd_base.specs.declared.journal.At.{At}
use Rattle.bd_base.specs.declared.script.Call.{Call}
use Rattle.bd_base.specs.declared.script.Process.{Process as ScriptProcess}
use Rattle.bd_base.specs.declared.script.Script.{Script}
use Rattle.bd_base.specs.declared.volume.Volume.{Volume}
use Rattle.bd_base.specs.Pieces.{Piece}
use Rattle.bd_base.specs.Scripts.{IsCall}
use Rattle.bd_entry.specs.declared.entry.Entry.{Entry}
use Rattle.bd_entry.specs.declared.entry.Entry.TheVariants as entries
use Rattle.bd_entry.specs.Calls.{Place, at_of, call_at, entries_of, is_miss_of, piece_of_call}
use Rattle.bd_entry.specs.Effects.{after_change}
use Rattle.bd_entry.specs.NextEntries.{IsLegalAt}
use Rattle.bd_entry.specs.Rules.{FitsCall, FitsStore, Once, place_in}
use Rattle.bd_entry.specs.RulesOfCalls.{IsFirstOfKind, IsOfCall}
use Rattle.bd_entry.specs.Store.{descriptor_at, user_of}
use Rattle.bd_kernel.specs.Disks.{CanChange, DiskState, IsDiskOf, IsSoundEntry}
use Rattle.bd_kernel.specs.Marks.{HasPieceOf}
use Rattle.bd_kernel.proofs.DiskEntries.{can_change, has_piece, legal_is_sound}
use Rattle.bd_machine.specs.declared.parts.Parts.{Parts}
use Rattle.bd_machine.specs.declared.process.Hand.{Hand}
use Rattle.bd_machine.specs.declared.process.Process.{Process}
use Rattle.bd_machine.specs.Engines.{Becomes, IsMoveInHand, IsInPhase, IsMoveOf, MoveAt, TakesStep, with_answer}
use Rattle.bd_machine.specs.Logs.{AppendsEntry, LogState}
use Rattle.bd_machine.specs.Shows.{IsCommandOf, in_hand_of}
use Rattle.bd_machine.specs.Turns.{NotesEntry, Sight, process_in}
use Rattle.bd_machine.proofs.EngineFacts.{Working}
use Rattle.bd_machine.proofs.EngineMisses.{same_hand, same_place}
use Rattle.bd_machine.proofs.EngineNotes.{Noted, noted_call, notes_on}
use Rattle.bd_machine.proofs.EngineWalks.{facts, goes, hand_is, running_there, walk_for}
use Rattle.bd_queue_pair.specs.declared.command.Command.{Command}
use Rattle.bd_queue_pair.specs.declared.command.DoneKind.TheVariants as kinds
use Rattle.bd_tables.specs.declared.request.Completion.{Completion}
use Rattle.bd_tables.specs.declared.request.Request.{Request}
use Rattle.bd_tables.specs.declared.state.Walk.TheVariants.{Translated}
use Rattle.bd_tables.specs.State.{told_of, walk_at}
use Rattle.bd_turns.specs.Added.{IsAdded, by_engine}
use Rattle.bd_turns.specs.declared.turn.Row.TheVariants as rows
use Rattle.bd_turns.specs.Engines.{engine_step, move, move_entry, move_entry_of, notes}
use Rattle.bd_turns.specs.Processors.{running_of}
use Rattle.bd_turns.specs.Reached.{IsReached}
use Rattle.bd_turns.specs.State.{InHand, Moving, State, progress_of}
use Rattle.bd_turns.proofs.LegalMoves.{moves_by}
use Rattle.bd_turns.proofs.LegalTurns.{turns_add_legally}
use Rattle.bd_turns.proofs.RunningPlaces.{ready, runs_at}
use Rattle.bd_turns.proofs.TablesOfSteps.{is_request}
use Rattle.bd_turns.proofs.Translations.{translated}
use Rattle.bd_tables.specs.declared.sides.Tables as sides

-- ---- entries that turns add

-- an entry that a turn adds is legal at its place
pub added_is_legal : (v : Volume) (m : State) (p : Place) (e : Entry) → IsAdded v m p e → IsLegalAt m.store p e
added_is_legal v m p e is =
    let runs = runs_at m p.at.process p is.running_is in
    let in_journal : record { call = p.call; at = at_of e; before = entries_of (at_of e) m.journal } ≡ p =
    ap (λ (at : At). record { call = p.call; at = at; before = entries_of at m.journal }) is.at_is
    ∙ ap (λ (before : List Entry). record p { before = before }) (sym runs.before_is) in
    let in_store : place_in m.store p.call (at_of e) ≡ p =
    ap (place_in m.store p.call) is.at_is ∙ ap (λ (before : List Entry). record p { before = before }) is.work_is in
    let Fits : Call → Type 0 =
    λ call. IsOfCall (record { call = call; at = at_of e; before = entries_of (at_of e) m.journal }) e in
    record {
      of_place = is.at_is;
      of_call =
          subst (λ (q : Place). IsOfCall q e) in_journal
          (subst (λ (o : Option Call). IfSome o Fits) is.next.call_is (is.next.fits FitsCall));
      once = subst (λ (q : Place). IsFirstOfKind q.before e) in_journal (is.next.fits Once);
      keeps = λ rule. subst (λ (q : Place). FitsStore m.store q e rule) in_store (is.next.keeps rule);
    }

-- and one that the disk can take
pub added_is_sound : (v : Volume) (m : State) (p : Place) (e : Entry) → IsReached v m → IsAdded v m p e → IsSoundEntry m.store p e
added_is_sound v m p e reached is =
    legal_is_sound m.store (running_of m p) e (ready v m p reached is.running_is is.unfinished) (added_is_legal v m p e is)

-- ---- the entry of a move

-- the direct access that a state has for these
abbrev pub move_at : State → Call → At → Command → ℕ → MoveAt
move_at m call at c block =
    let place : Place = record { call = call; at = at; before = entries_of at m.journal } in
    record {
      store = m.store;
      place = place;
      entry = unwrap_or (move_entry_of m.store place c.piece block) (entries.Closed at 0);
    }

module _ {T M P : Type 0} {K : sides.Ghosts T P} (g : Sight) (x : Parts T M P) (q : ℕ) (w : IsInPhase K g x q Moving) where
  abbrev known : Working K g x q w.it
  known = facts g x q Moving w

  abbrev m : State
  m = g.state

  abbrev p : Place
  p = known.place

  abbrev number : ℕ
  number = w.hand.command.piece

  -- the engine holds a translation
  pub told_there : (completion : Completion) × (told_of (walk_at m.tables.walks q) ≡ Some completion)
  told_there =
      let walk = (walk_for g x q Moving w).walk in
      (walk.0, ap told_of (ap (λ (n : ℕ). walk_at m.tables.walks n) (sym known.process_is) ∙ walk.1))

  -- there is such an entry
  pub entry_there : (completion : Completion) → told_of (walk_at m.tables.walks q) ≡ Some completion →
      (e : Entry) × (move_entry_of m.store p number completion.block ≡ Some e)
  entry_there completion told =
      let walk_is = walk_for g x q Moving w in
      let of = is_request p number walk_is.request walk_is.of_piece in
      let same : walk_is.walk.0 ≡ completion =
      same_Some walk_is.walk.0 completion
      (sym (ap told_of (ap (λ (n : ℕ). walk_at m.tables.walks n) (sym known.process_is) ∙ walk_is.walk.1)) ∙ told) in
      let walk = walk_is.walk.1 ∙ ap (λ (c : Completion). Translated walk_is.request c) same
      ∙ ap (λ (r : Request). Translated r completion) (sym of.request_is) in
      let t = translated m p of.fd of.piece completion known.sound.tables_are walk in
      let block : ℕ = completion.block in
      let of_piece : ℕ → Piece → Option Entry =
      λ fd piece. option_map (move_entry m.store p number fd piece block) (descriptor_at m.store p.at.process fd) in
      let of_fd : ℕ → Option Entry = λ fd. option_and_then (of_piece fd) (piece_of_call p.call number) in (
        move_entry m.store p number of.fd of.piece block t.d,
        ap (option_and_then of_fd) of.fd_is ∙ ap (option_and_then (of_piece of.fd)) of.piece_is
            ∙ ap (option_map (move_entry m.store p number of.fd of.piece block)) t.is_open,
      )

  module _ (completion : Completion) (told : told_of (walk_at m.tables.walks q) ≡ Some completion) (e : Entry)
      (moved : move_entry_of m.store p number completion.block ≡ Some e) where
    stepping : engine_step m p ≡ Some (notes rows.Move m.tables (progress_of m p.at.process) number e)
    stepping =
        goes g x q Moving w
        ∙ ap (option_and_then (move m.store m.tables p (progress_of m p.at.process) number))
        (ap (λ (n : ℕ). told_of (walk_at m.tables.walks n)) known.process_is ∙ told)
        ∙ ap (option_map (notes rows.Move m.tables (progress_of m p.at.process) number)) moved

    added : IsAdded w.at.reached.0 m p e
    added =
        turns_add_legally w.at.reached.0 m w.at.reached.1 p e
        (by_engine (notes rows.Move m.tables (progress_of m p.at.process) number e) (running_there g x q Moving w) stepping refl)

    module _ (call : Call) (at : At) (c : Command) (called : call_at g.script at ≡ Some call) (at_is : at ≡ record { process = q; call = w.it.ended })
        (c_is : c ≡ w.hand.command) where
      abbrev place_at : Place
      place_at = record { call = call; at = at; before = entries_of at m.journal }

      at_same : p.at ≡ at
      at_same = known.at_is ∙ sym at_is

      called_here : call_at m.script p.at ≡ Some p.call
      called_here = (runs_at m p.at.process p (running_there g x q Moving w)).called

      before_here : p.before ≡ entries_of p.at m.journal
      before_here = (runs_at m p.at.process p (running_there g x q Moving w)).before_is

      call_same : p.call ≡ call
      call_same =
          same_Some p.call call
          (sym called_here ∙ ap (call_at m.script) at_same ∙ ap (λ (script : Script). call_at script at) w.at.shows.script_is ∙ called)

      place_same : p ≡ place_at
      place_same =
          ap (λ (before : List Entry). record p { before = before }) before_here
          ∙ ap (λ (k : At). record { call = p.call; at = k; before = entries_of k m.journal }) at_same
          ∙ ap (λ (k : Call). record { call = k; at = at; before = entries_of at m.journal }) call_same

      moved_there : move_entry_of m.store place_at c.piece completion.block ≡ Some e
      moved_there =
          ap (λ (k : Command). move_entry_of m.store place_at k.piece completion.block) c_is
          ∙ ap (λ (k : Place). move_entry_of m.store k number completion.block) (sym place_same) ∙ moved

      -- the entry that is chosen is the one of the step
      entry_same : e ≡ (move_at m call at c completion.block).entry
      entry_same = ap (λ (o : Option Entry). unwrap_or o (entries.Closed at 0)) (sym moved_there)

      -- what the code asks for as it makes the entry
      pub is_move_of : IsMoveOf x.disk call at c completion.block (move_at m call at c completion.block)
      is_move_of = record {
        disk_is = w.at.shows.disk;
        valid = known.sound.calls.valid;
        within = subst IsCall call_same known.within;
        call_is = refl;
        at_is = refl;
        command_is = subst (λ (k : Place). IsCommandOf k c) place_same (subst (IsCommandOf p) (sym c_is) (hand_is g x q Moving w).command);
        moved = moved_there ∙ ap Some entry_same;
        legal = subst (IsLegalAt m.store place_at) entry_same
            (subst (λ (k : Place). IsLegalAt m.store k e) place_same (added_is_legal w.at.reached.0 m p e added));
      }

      pub moves_in_hand : (entry : Entry) → entry ≡ (move_at m call at c completion.block).entry → IsMoveInHand m q entry
      moves_in_hand entry is = record {
        place = p;
        running_is = known.running_is;
        hand = in_hand_of w.hand Moving;
        in_hand = w.entered;
        phase_is = refl;
        completion = completion;
        told = told;
        moved = moved ∙ ap Some (entry_same ∙ sym is);
      }

  module _ (e : Entry) (is : IsMoveInHand m q e) where
    -- the entry is the one of the step
    moved_here : move_entry_of m.store p number is.completion.block ≡ Some e
    moved_here =
        ap (λ (k : Place). move_entry_of m.store k number is.completion.block) (sym (same_place g x q Moving w is.place is.running_is))
        ∙ ap (λ (h : InHand). move_entry_of m.store is.place h.piece is.completion.block) (sym (same_hand g x q Moving w is.hand is.in_hand))
        ∙ is.moved

    added_here : IsAdded w.at.reached.0 m p e
    added_here = added is.completion is.told e moved_here

    pub can_move : CanChange x.disk e
    can_move =
        can_change x.disk m.store p e w.at.shows.disk (added_is_sound w.at.reached.0 m p e w.at.reached.1 added_here)

    pub move_piece : HasPieceOf e
    move_piece = has_piece p e known.within (added_is_legal w.at.reached.0 m p e added_here).of_call

    move_of_piece : false ≡ is_miss_of number e
    move_of_piece = ap (is_miss_of number) (moves_by m.store p number is.completion.block e moved_here).entry

    -- the user of the process
    pub user_is : (uid : ℕ) (r : ScriptProcess) → r ≡ get_or g.script.processes q r → uid ≡ r.uid → user_of m.store (at_of e).process ≡ uid
    user_is uid r r_is uid_is =
        let inside : q < length g.script.processes = known.there in
        ap (λ (at : At). user_of m.store at.process) added_here.at_is
        ∙ ap (user_of m.store) known.process_is
        ∙ ap (λ (l : List ℕ). slice_index_or l q 0) w.at.shows.users
        ∙ get_or-map (λ (p : ScriptProcess). p.uid) g.script.processes q r 0 inside
        ∙ ap (λ (p : ScriptProcess). p.uid) (sym r_is) ∙ sym uid_is

    pub moves_on : (changed : DiskState) (n z : Parts T M P) (l : LogState) → IsDiskOf changed (after_change m.store e) → changed.held ≡ x.disk.held →
        NotesEntry (record x { disk = changed }) n q e → AppendsEntry n.log e l →
        ((y : Process P) (hand : Hand) → process_in n q ≡ Some y → y.hand ≡ Some hand →
        Becomes (record n { log = l }) z q n.tables (with_answer y hand kinds.Moved)) → TakesStep K g x z q rows.Move
    moves_on changed n z l changed_is held noted log answered =
        let s : Noted x q m e changed n l = record { changed_is = changed_is; held = held; noted = noted; log = log } in
        let steps = stepping is.completion is.told e moved_here in
        let call = noted_call g x q Moving w refl refl rows.Move e steps changed n l s in
        notes_on g x q Moving w refl refl rows.Move e steps changed n l s z kinds.Moved move_of_piece
        (answered (record w.it { call = Some call.0 }) w.hand call.1 w.in_hand)
