-- The direct accesses of device engines are legal.
use Rattle.std.proofs.Common.{◌≡◌, ℕ, ◌+◌, ◌*◌, ◌≤◌, min, Bool, true, false, not, ◌||◌, cond, Option, Some, refl, sym, ap, ◌∙◌, subst, arith}
use Rattle.std.specs.Prelude.{nat_lt, slice_range}
use Rattle.std.specs.Option.{option_and_then, option_map}
use Rattle.std.proofs.lemmas.Bool.{false≢true}
use Rattle.std.proofs.lemmas.Option.{same_Some}
use Rattle.bd_base.specs.declared.journal.Way.TheVariants as ways
use Rattle.bd_base.specs.declared.limits.TheConstants.{BLOCK_SIZE}
use Rattle.bd_base.specs.declared.script.How.{How}
use Rattle.bd_base.specs.declared.script.How.TheVariants as hows
use Rattle.bd_base.specs.declared.script.Mode.{Mode}
use Rattle.bd_base.specs.declared.script.Mode.TheVariants.{Rw}
use Rattle.bd_base.specs.declared.volume.Volume.{Volume}
use Rattle.bd_base.specs.Pieces.{Piece}
use Rattle.bd_entry.specs.declared.entry.Entry.{Entry}
use Rattle.bd_entry.specs.Calls.{Place, bytes_for_piece, does_write, fd_of, has_missed, is_raw, piece_end, piece_of_call}
use Rattle.bd_entry.specs.NextEntries.{IsLegalAt}
use Rattle.bd_entry.specs.Refusals.{descriptor_of}
use Rattle.bd_entry.specs.Rules.{Allowed, EntryRule, FitsStore, IsOpen, NotRefused, RightBlock, RightBytes, RightFile, RightWay, Rights, WithinLimit}
use Rattle.bd_entry.specs.RulesOfContents.{IsContent, bytes_within}
use Rattle.bd_entry.specs.RulesOfRights.{IsWay, IsWayBy, MayWrite, ThePiece}
use Rattle.bd_entry.specs.Store.{Descriptor, Store, descriptor_at, is_plain, limit_in}
use Rattle.bd_entry.proofs.NextActs.{is_there, map_from, then_from}
use Rattle.bd_tables.specs.declared.request.Completion.{Completion}
use Rattle.bd_tables.specs.declared.request.Request.{Request}
use Rattle.bd_tables.specs.declared.state.Walk.TheVariants as walks
use Rattle.bd_tables.specs.State.{told_of, walk_at}
use Rattle.bd_turns.proofs.CommandsInHand.{GoesDirectBy, IsUntold, untold_in_hand}
use Rattle.bd_turns.proofs.LegalMisses.{makes_access, raw_or_not}
use Rattle.bd_turns.proofs.RunningPlaces.{legal_is_added}
use Rattle.bd_turns.proofs.StepEntries.{IsMove}
use Rattle.bd_turns.proofs.Translations.{IsTranslated, request_is, translated}
use Rattle.bd_turns.specs.Added.{IsAdded}
use Rattle.bd_turns.specs.Engines.{move_entry, move_entry_of, request_for}
use Rattle.bd_turns.specs.Reached.{IsReached}
use Rattle.bd_turns.specs.State.{InHand, Moving, State, running}

-- ---- the rules

-- a piece that goes direct has its access so
direct_way : (how : How) (below missed : Bool) → not (is_plain how || below) ≡ true →
    IsWayBy how (not (is_plain how || below)) missed ways.Direct
direct_way hows.Plain below missed goes = absurd (false≢true goes)
direct_way hows.Direct true missed goes = absurd (false≢true goes)
direct_way hows.Direct false missed goes = tt

way_is : (s : Store) (p : Place) (number : ℕ) → GoesDirectBy s p number →
    ThePiece p number (λ piece. IsWay (descriptor_of s p) piece (has_missed number p.before) ways.Direct)
way_is s p number direct =
    let missed = has_missed number p.before in (
      direct.piece,
      direct.piece_is,
      subst (λ (slot : Option Descriptor). IsWay slot direct.piece missed ways.Direct) (sym direct.of)
          (direct_way direct.d.how (nat_lt direct.d.known (piece_end direct.piece)) missed direct.direct),
    )

writes_by : (wrote : Bool) (mode : Mode) → (wrote ≡ true → mode ≡ Rw) → MayWrite wrote mode
writes_by true mode may = may refl
writes_by false mode may = tt

-- what is moved is the content of the piece, which ends within the limit of its block
moved_content : (s : Store) (p : Place) (file block limit : ℕ) (piece : Piece) (wrote : Bool) → piece.range.hi ≤ limit →
    limit_in s file piece.index ≡ limit →
    IsContent s p file piece.index (Some block) piece.range wrote
    (cond wrote (bytes_for_piece p.call piece) (bytes_within s.bytes (Some block) piece.range piece.range.hi))
moved_content s p file block limit piece true inside is = refl
moved_content s p file block limit piece false inside is =
    let hi : ℕ = piece.range.hi in
    let same : min hi hi ≡ min hi (limit_in s file piece.index) = omega (inside, is, arith) in
    ap (λ (end : ℕ). slice_range s.bytes (BLOCK_SIZE * block + piece.range.lo) (BLOCK_SIZE * block + end)) same

move-keeps : (m : State) (p : Place) (number fd : ℕ) (piece : Piece) (completion : Completion) → IsUntold m p number →
    (is : IsTranslated m.store p fd piece completion) → (rule : EntryRule) →
    FitsStore m.store p (move_entry m.store p number fd piece completion.block is.d) rule
move-keeps m p number fd piece completion untold is RightWay =
    raw_or_not (is_raw p.call) (ways.Direct ≡ ways.Direct)
    (ThePiece p number (λ piece. IsWay (descriptor_of m.store p) piece (has_missed number p.before) ways.Direct)) (λ raw. refl)
    (λ raw. way_is m.store p number (untold.goes raw))
move-keeps m p number fd piece completion untold is IsOpen = is_there (descriptor_at m.store p.at.process fd) is.d is.is_open
move-keeps m p number fd piece completion untold is RightFile = (is.d, is.is_open, refl)
move-keeps m p number fd piece completion untold is Allowed =
    (is.d, is.is_open, writes_by (does_write p.call) is.d.mode is.writable)
move-keeps m p number fd piece completion untold is Rights = (is.d, is.is_open, is.attached)
move-keeps m p number fd piece completion untold is RightBlock = is.block_is
move-keeps m p number fd piece completion untold is WithinLimit = is.inside
move-keeps m p number fd piece completion untold is RightBytes =
    moved_content m.store p is.d.file completion.block (limit_in m.store is.d.file piece.index) piece (does_write p.call) is.inside refl
move-keeps m p number fd piece completion untold is NotRefused = λ none. untold.allowed
move-keeps m p number fd piece completion untold is rule = tt

-- ---- moves

-- the parts of a move's entry
pub record MovesBy (s : Store) (p : Place) (number block : ℕ) (e : Entry) : Type 0 where
  pub fd : ℕ
  pub fd_is : fd_of p ≡ Some fd
  pub piece : Piece
  pub piece_is : piece_of_call p.call number ≡ Some piece
  pub d : Descriptor
  pub is_open : descriptor_at s p.at.process fd ≡ Some d
  pub entry : move_entry s p number fd piece block d ≡ e

pub moves_by : (s : Store) (p : Place) (number block : ℕ) (e : Entry) → move_entry_of s p number block ≡ Some e → MovesBy s p number block e
moves_by s p number block e is =
    let of_piece : ℕ → Piece → Option Entry =
    λ fd piece. option_map (move_entry s p number fd piece block) (descriptor_at s p.at.process fd) in
    let of_fd : ℕ → Option Entry = λ fd. option_and_then (of_piece fd) (piece_of_call p.call number) in
    let fd = then_from of_fd (fd_of p) e is in
    let piece = then_from (of_piece fd.0) (piece_of_call p.call number) e fd.2 in
    let d = map_from (move_entry s p number fd.0 piece.0 block) (descriptor_at s p.at.process fd.0) e piece.2 in
    record {
      fd = fd.0;
      fd_is = fd.1;
      piece = piece.0;
      piece_is = piece.1;
      d = d.0;
      is_open = d.1;
      entry = d.2;
    }

pub moves_add_legally : (v : Volume) (m : State) (p : Place) (e : Entry) → IsReached v m → running m p.at.process ≡ Some p →
    IsMove m p e → IsAdded v m p e
moves_add_legally v m p e reached is move =
    let number : ℕ = move.number in
    let hand : InHand = record { piece = number; phase = Moving } in
    let sound = reached.sound.tables_are in
    let untold = untold_in_hand v m p hand reached is move.in_hand refl in
    let by = moves_by m.store p number move.completion.block e move.entry in
    let fd : ℕ = by.fd in
    let piece : Piece = by.piece in
    let walks_for = sound.hands p.at.process p hand is move.in_hand in
    let request : Request = walks_for.request in
    let same : request_for p fd piece ≡ request =
    request_is p number fd piece request by.fd_is by.piece_is walks_for.of_piece in
    let completion : Completion = walks_for.walk.0 in
    let told : completion ≡ move.completion =
    same_Some completion move.completion (sym (ap told_of walks_for.walk.1) ∙ move.told) in
    let walk : walk_at m.tables.walks p.at.process ≡ walks.Translated (request_for p fd piece) move.completion =
    walks_for.walk.1 ∙ ap (λ (c : Completion). walks.Translated request c) told
    ∙ ap (λ (r : Request). walks.Translated r move.completion) (sym same) in
    let is_translated = translated m p fd piece move.completion sound walk in
    let d_is : is_translated.d ≡ by.d = same_Some is_translated.d by.d (sym is_translated.is_open ∙ by.is_open) in
    let legal : IsLegalAt m.store p (move_entry m.store p number fd piece move.completion.block is_translated.d) =
    record {
      of_place = refl;
      of_call = record {
        kind = makes_access p.call number untold.within (move_entry m.store p number fd piece move.completion.block is_translated.d) refl;
        fields = (by.fd_is, record { piece = by.piece_is; direction = refl });
      };
      once = untold.unanswered;
      keeps = move-keeps m p number fd piece move.completion untold is_translated;
    } in
    legal_is_added v m p e reached is untold.unfinished
    (subst (IsLegalAt m.store p)
    (ap (move_entry m.store p number fd piece move.completion.block) d_is ∙ by.entry) legal)
