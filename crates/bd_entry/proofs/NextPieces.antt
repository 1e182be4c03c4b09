-- The next entries of reads and writes are legal: the kernel's access of a piece, the growth before it, and a refused piece.
use Rattle.std.proofs.Common.{◌≡◌, ◌⊎◌, inl, inr, ℕ, ◌+◌, ◌-◌, ◌*◌, ◌<◌, ◌≤◌, min, Bool, true, false, not, ◌||◌, cond, List, [], ◌∷◌, length, Option, None, Some, refl, sym, ap, ◌∙◌, subst, arith, ⊎_elim}
use Rattle.std.specs.Prelude.{nat_lt, slice_get}
use Rattle.std.specs.Option.{option_and_then, option_map, option_map_or, option_or}
use Rattle.std.specs.List.{find}
use Rattle.std.proofs.lemmas.Bool.{and_parts, both_ways, cases_lt, false≢true, lt-ltb}
use Rattle.std.proofs.lemmas.Option.{none-some, same_Some}
use Rattle.bd_base.specs.declared.limits.TheConstants.{BLOCK_SIZE}
use Rattle.bd_base.specs.declared.reason.Reason.{Reason}
use Rattle.bd_base.specs.declared.reason.Reason.TheVariants as reasons
use Rattle.bd_base.specs.declared.script.Call.TheVariants.{Read, Write}
use Rattle.bd_base.specs.declared.script.How.{How}
use Rattle.bd_base.specs.declared.script.How.TheVariants as hows
use Rattle.bd_base.specs.declared.script.Mode.{Mode}
use Rattle.bd_base.specs.declared.script.Mode.TheVariants.{R, Rw}
use Rattle.bd_base.specs.declared.volume.Inode.{Inode}
use Rattle.bd_base.specs.declared.journal.At.{At}
use Rattle.bd_base.specs.declared.journal.Way.{Way}
use Rattle.bd_base.specs.Files.{blocks_for, limit_of}
use Rattle.bd_base.specs.Inodes.{blocks_of_slot}
use Rattle.bd_base.specs.Pieces.{Piece}
use Rattle.bd_base.proofs.Ranges.{find-range_lowest}
use Rattle.bd_entry.specs.declared.act.Act.{Act}
use Rattle.bd_entry.specs.declared.act.Act.TheVariants as acts
use Rattle.bd_entry.specs.declared.entry.Entry.{Entry}
use Rattle.bd_entry.specs.declared.entry.Entry.TheVariants as entries
use Rattle.bd_entry.specs.Actions.{Holders, Running, access_piece, busy, entry_of_act, is_none_of, kernel_entry, kernel_part, kernel_way, move_piece, piece_numbers, submit_or_poll}
use Rattle.bd_entry.specs.Calls.{Place, bytes_for_piece, does_write, fd_of, has_missed, is_answered, is_made_by, is_raw, piece_end, piece_of_call, pieces_of_call}
use Rattle.bd_entry.specs.NextEntries.{IsLegalAt, IsReadyPlace, NextIsLegal, running}
use Rattle.bd_entry.specs.Refusals.{descriptor_of, first_refusal, goes_direct, growth_reason_of, is_for_kernel, is_next_for_kernel, is_read_only, next_size, reason_if}
use Rattle.bd_entry.specs.Rules.{Allowed, EntryRule, FitsStore, IsOpen, NotRefused, RightBlock, RightBytes, RightFile, RightWay, Rights, WithinLimit}
use Rattle.bd_entry.specs.RulesOfContents.{EndsWithin, IsContent, MayBegin, bytes_within}
use Rattle.bd_entry.specs.RulesOfRights.{HasRightToAccess, IsWay, IsWayBy, MayWrite, RawOrNot, ThePiece, WentToKernel}
use Rattle.bd_entry.specs.Store.{Descriptor, Store, Valid, blocks_in, descriptor_at, file_in, limit_in, size_in}
use Rattle.bd_entry.proofs.CallPieces.{IsInBlock, piece_of_call-in_block}
use Rattle.bd_entry.proofs.NextActs.{OwnIsLegal, busy_adds_none, is_there, map_from, map_or_from, next_from_own, open_descriptor, or_from_either, or_none, still_allowed, then_from}
use Rattle.bd_entry.proofs.NextFiles.{cond_from, extension_is_legal, next_size-none, reason_if-none}
use Rattle.bd_entry.proofs.NextOpens.{not-true}
use Rattle.bd_entry.proofs.Slots.{some_of}

-- ---- what the kernel does next

-- the kernel moves this piece by this descriptor, and nothing is outstanding
record Moves (s : Store) (p : Place) (outstanding : List ℕ) (act : Act) : Type 0 where
  number : ℕ
  piece : Piece
  d : Descriptor
  none : outstanding ≡ []
  found : find (is_next_for_kernel s p) (piece_numbers p.call) ≡ Some number
  unanswered : is_answered number p.before ≡ false
  piece_is : piece_of_call p.call number ≡ Some piece
  of : descriptor_of s p ≡ Some d
  for_kernel : (has_missed number p.before || not (goes_direct d piece)) ≡ true
  act_is : move_piece s p number piece d ≡ act

-- a submission or a poll adds no entry
pub submitted_adds_none : (s : Store) (r : Running) (act : Act) → submit_or_poll s r ≡ Some act → entry_of_act s r.place act ≡ None
submitted_adds_none s r act is =
    let p = r.place in
    ⊎_elim {C = entry_of_act s r.place act ≡ None}
    (λ submits. let by = map_from acts.Submit _ act submits in ap (entry_of_act s p) (sym by.2))
    (λ polls.
    ⊎_elim {C = entry_of_act s r.place act ≡ None}
    (λ nothing. absurd (none-some act nothing.1))
    (λ some. ap (entry_of_act s p) (sym (same_Some acts.Poll act some.1)))
    (cond_from (is_none_of r.outstanding) None (Some acts.Poll) (Some act) polls.1))
    (or_from_either (option_map acts.Submit _) (cond (is_none_of r.outstanding) None (Some acts.Poll)) act is)

-- where nothing is to be polled, nothing is outstanding
nothing_outstanding : (outstanding : List ℕ) → cond (is_none_of outstanding) None (Some acts.Poll) ≡ None → outstanding ≡ []
nothing_outstanding [] none = refl
nothing_outstanding (number ∷ numbers) none = absurd (none-some acts.Poll (sym none))

-- a piece that is next for the kernel is not answered, and its walk found nothing or it does not go direct
next_piece : (s : Store) (p : Place) (number : ℕ) (piece : Piece) (d : Descriptor) → is_next_for_kernel s p number ≡ true →
    piece_of_call p.call number ≡ Some piece → descriptor_of s p ≡ Some d →
    (is_answered number p.before ≡ false) × ((has_missed number p.before || not (goes_direct d piece)) ≡ true)
next_piece s p number piece d is piece_is of =
    let parts = and_parts (not (is_answered number p.before)) (option_map_or (is_for_kernel s p number) (piece_of_call p.call number) false) is in
    let for_kernel : is_for_kernel s p number piece ≡ true =
    sym (ap (λ (o : Option Piece). option_map_or (is_for_kernel s p number) o false) piece_is) ∙ parts.1 in
    let goes : Descriptor → Bool = λ d. goes_direct d piece in (
      not-true (is_answered number p.before) parts.0,
      sym (ap (λ (slot : Option Descriptor). has_missed number p.before || not (option_map_or goes slot false)) of) ∙ for_kernel,
    )

kernel_moves : (s : Store) (holders : Holders) (r : Running) (act : Act) (e : Entry) →
    option_or (submit_or_poll s r) (kernel_part s holders r.place) ≡ Some act → entry_of_act s r.place act ≡ Some e →
    Moves s r.place r.outstanding act
kernel_moves s holders r act e is adds =
    let p = r.place in
    ⊎_elim
    (λ submits. absurd (none-some e (sym (submitted_adds_none s r act submits) ∙ adds)))
    (λ kernel.
    let rest : ℕ → Option Act =
    λ number. option_and_then (λ piece. option_map (move_piece s p number piece) (descriptor_of s p)) (piece_of_call p.call number) in
    let next = then_from (λ number. option_or (busy s holders p) (rest number)) (find (is_next_for_kernel s p) (piece_numbers p.call)) act kernel.1 in
    let number : ℕ = next.0 in
    ⊎_elim
    (λ waits. absurd (none-some e (sym (busy_adds_none s holders p act waits) ∙ adds)))
    (λ free.
    let piece = then_from (λ piece. option_map (move_piece s p number piece) (descriptor_of s p)) (piece_of_call p.call number) act free.1 in
    let by = map_from (move_piece s p number piece.0) (descriptor_of s p) act piece.2 in
    let passes = (find-range_lowest (is_next_for_kernel s p) 0 (length (pieces_of_call p.call)) number next.1).passes in
    let facts = next_piece s p number piece.0 by.0 passes piece.1 by.1 in
    record {
      number = number;
      piece = piece.0;
      d = by.0;
      none = nothing_outstanding r.outstanding (or_none (option_map acts.Submit _) (cond (is_none_of r.outstanding) None (Some acts.Poll)) kernel.0).1;
      found = next.1;
      unanswered = facts.0;
      piece_is = piece.1;
      of = by.1;
      for_kernel = facts.1;
      act_is = by.2;
    })
    (or_from_either (busy s holders p) (rest number) act next.2))
    (or_from_either (submit_or_poll s r) (kernel_part s holders p) act is)

-- ---- accesses of the kernel

-- the way of the kernel is the right one
kernel_way-is : (how : How) (direct missed : Bool) → (missed || not direct) ≡ true → (missed ≡ true → direct ≡ true) →
    IsWayBy how direct missed (kernel_way how missed)
kernel_way-is hows.Plain direct missed for_kernel goes = refl
kernel_way-is hows.Direct true true for_kernel goes = refl
kernel_way-is hows.Direct true false for_kernel goes = absurd (false≢true for_kernel)
kernel_way-is hows.Direct false true for_kernel goes = absurd (false≢true (goes refl))
kernel_way-is hows.Direct false false for_kernel goes = tt

-- it needs no right
kernel_way-no_right : (how : How) (missed : Bool) (slot : Option Descriptor) (index : ℕ) → HasRightToAccess slot (kernel_way how missed) index
kernel_way-no_right hows.Plain missed slot index = tt
kernel_way-no_right hows.Direct true slot index = tt
kernel_way-no_right hows.Direct false slot index = tt

-- a write by it ends within the limit
kernel_way-ends : (how : How) (missed wrote : Bool) (hi limit : ℕ) → (wrote ≡ true → hi ≤ limit) → EndsWithin (kernel_way how missed) wrote hi limit
kernel_way-ends hows.Plain missed true hi limit within = within refl
kernel_way-ends hows.Plain missed false hi limit within = tt
kernel_way-ends hows.Direct true true hi limit within = within refl
kernel_way-ends hows.Direct true false hi limit within = tt
kernel_way-ends hows.Direct false true hi limit within = within refl
kernel_way-ends hows.Direct false false hi limit within = tt

may_write : (wrote : Bool) (mode : Mode) → (wrote ≡ true → mode ≡ Rw) → MayWrite wrote mode
may_write true mode may = may refl
may_write false mode may = tt

kernel_content : (s : Store) (p : Place) (file : ℕ) (piece : Piece) (wrote : Bool) →
    let block = slice_get (blocks_in s file) piece.index in
    IsContent s p file piece.index block piece.range wrote
    (cond wrote (bytes_for_piece p.call piece) (bytes_within s.bytes block piece.range (limit_in s file piece.index)))
kernel_content s p file piece true = refl
kernel_content s p file piece false = refl

-- the kernel reads or writes this piece of the call
record Accesses (s : Store) (p : Place) (number fd : ℕ) (piece : Piece) (d : Descriptor) : Type 0 where
  named : fd_of p ≡ Some fd
  piece_is : piece_of_call p.call number ≡ Some piece
  of : descriptor_of s p ≡ Some d
  no_raw : is_raw p.call ≡ false
  kind : (way : Way) → is_made_by p.call (kernel_entry s p number way fd piece d) ≡ true
  unanswered : is_answered number p.before ≡ false
  for_kernel : (has_missed number p.before || not (goes_direct d piece)) ≡ true
  missed : has_missed number p.before ≡ true → goes_direct d piece ≡ true
  mode : does_write p.call ≡ true → d.mode ≡ Rw
  within : does_write p.call ≡ true → piece.range.hi ≤ limit_in s d.file piece.index
  may_begin : MayBegin s p

access-keeps : (s : Store) (p : Place) (number fd : ℕ) (piece : Piece) (d : Descriptor) → Accesses s p number fd piece d →
    descriptor_at s p.at.process fd ≡ Some d → (rule : EntryRule) →
    FitsStore s p (kernel_entry s p number (kernel_way d.how (has_missed number p.before)) fd piece d) rule
access-keeps s p number fd piece d accesses is RightWay =
    let missed = has_missed number p.before in
    let way = kernel_way d.how missed in
    let by : IsWay (descriptor_of s p) piece missed way =
    subst (λ (slot : Option Descriptor). IsWay slot piece missed way) (sym accesses.of)
    (kernel_way-is d.how (goes_direct d piece) missed accesses.for_kernel accesses.missed) in
    subst
    (λ (raw : Bool). RawOrNot raw (way ≡ Way.Direct) (ThePiece p number (λ piece. IsWay (descriptor_of s p) piece missed way)))
    (sym accesses.no_raw) (piece, accesses.piece_is, by)
access-keeps s p number fd piece d accesses is IsOpen = is_there (descriptor_at s p.at.process fd) d is
access-keeps s p number fd piece d accesses is RightFile = (d, is, refl)
access-keeps s p number fd piece d accesses is Allowed = (d, is, may_write (does_write p.call) d.mode accesses.mode)
access-keeps s p number fd piece d accesses is Rights =
    kernel_way-no_right d.how (has_missed number p.before) (descriptor_at s p.at.process fd) piece.index
access-keeps s p number fd piece d accesses is RightBlock = refl
access-keeps s p number fd piece d accesses is WithinLimit =
    kernel_way-ends d.how (has_missed number p.before) (does_write p.call) piece.range.hi (limit_in s d.file piece.index) accesses.within
access-keeps s p number fd piece d accesses is RightBytes = kernel_content s p d.file piece (does_write p.call)
access-keeps s p number fd piece d accesses is NotRefused = accesses.may_begin
access-keeps s p number fd piece d accesses is rule = tt

access_is_legal : (s : Store) (p : Place) (number fd : ℕ) (piece : Piece) (d : Descriptor) (e : Entry) → Accesses s p number fd piece d →
    entry_of_act s p (access_piece p number d) ≡ Some e → IsLegalAt s p e
access_is_legal s p number fd piece d e accesses adds =
    let way = kernel_way d.how (has_missed number p.before) in
    let by_descriptor : ℕ → Piece → Option Entry = λ fd piece. option_map (kernel_entry s p number way fd piece) (descriptor_of s p) in
    let by_piece : ℕ → Option Entry = λ fd. option_and_then (by_descriptor fd) (piece_of_call p.call number) in
    let entry = kernel_entry s p number way fd piece d in
    let same : Some entry ≡ Some e =
    sym (ap (option_map (kernel_entry s p number way fd piece)) accesses.of) ∙ sym (ap (option_and_then (by_descriptor fd)) accesses.piece_is)
    ∙ sym (ap (option_and_then by_piece) accesses.named) ∙ adds in
    let is_open : descriptor_at s p.at.process fd ≡ Some d = sym (ap (option_and_then (descriptor_at s p.at.process)) accesses.named) ∙ accesses.of in
    subst (IsLegalAt s p) (same_Some entry e same)
    (record {
      of_call = record {
        kind = accesses.kind way;
        fields = (accesses.named, record { piece = accesses.piece_is; direction = refl });
      };
      of_place = refl;
      once = accesses.unanswered;
      keeps = access-keeps s p number fd piece d accesses is_open;
    })

-- ---- reads

read_is_legal : (fd off len : ℕ) → OwnIsLegal (Read fd off len)
read_is_legal fd off len s holders at before outstanding act e ready own adds =
    let r = running (Read fd off len) at before outstanding in
    let p = r.place in
    let moves = kernel_moves s holders r act e own.own adds in
    let number : ℕ = moves.number in
    access_is_legal s p number fd moves.piece moves.d e
    (record {
      named = refl;
      piece_is = moves.piece_is;
      of = moves.of;
      no_raw = refl;
      kind = λ way. refl;
      unanswered = moves.unanswered;
      for_kernel = moves.for_kernel;
      missed = λ missed. ready.missed number moves.piece moves.d missed moves.piece_is moves.of;
      mode = λ writes. absurd (false≢true writes);
      within = λ writes. absurd (false≢true writes);
      may_begin = own.may_begin moves.none;
    })
    (ap (entry_of_act s p) moves.act_is ∙ adds)

pub reads_are_legal : (fd off len : ℕ) → NextIsLegal (Read fd off len)
reads_are_legal fd off len = next_from_own (Read fd off len) (read_is_legal fd off len)

-- ---- writes

-- bytes below the size of a file are below the limit of their block
limit-within : (size index hi : ℕ) (blocks : List ℕ) → length blocks ≡ blocks_for size → 0 < hi → hi ≤ BLOCK_SIZE → BLOCK_SIZE * index + hi ≤ size →
    hi ≤ limit_of size blocks index
limit-within size index hi blocks enough some in_block below =
    let inside : index < length blocks = omega arith in
    let limit : limit_of size blocks index ≡ min BLOCK_SIZE (size - BLOCK_SIZE * index) =
    ap (λ (b : Bool). cond b (min BLOCK_SIZE (size - BLOCK_SIZE * index)) 0) (lt-ltb index (length blocks) inside) in
    omega arith

-- so are those of a piece that ends within the size of its file
piece-within : (s : Store) (process fd : ℕ) (d : Descriptor) (piece : Piece) → Valid s → descriptor_at s process fd ≡ Some d → IsInBlock piece →
    next_size (size_in s d.file) (piece_end piece) ≡ None → piece.range.hi ≤ limit_in s d.file piece.index
piece-within s process fd d piece valid is in_block reached =
    let there = some_of (file_in s d.file) (valid.descriptors process fd d is).of_file in
    let f : Inode = there.0 in
    let enough : length f.blocks ≡ blocks_for f.size = (valid.volume.files.valid.each d.file f there.1).enough_blocks in
    let count : length (blocks_in s d.file) ≡ length f.blocks = ap (λ (slot : Option Inode). length (blocks_of_slot slot)) there.1 in
    let now : size_in s d.file ≡ f.size = ap (λ (slot : Option Inode). option_map_or (λ (f : Inode). f.size) slot 0) there.1 in
    let fails = next_size-none (size_in s d.file) (piece_end piece) reached in
    let below : piece_end piece ≤ size_in s d.file =
    ⊎_elim
    (λ above. absurd (both_ways (nat_lt (size_in s d.file) (piece_end piece)) fails (lt-ltb (size_in s d.file) (piece_end piece) above)))
    (λ within. within)
    (cases_lt (size_in s d.file) (piece_end piece)) in
    let some : piece.range.lo < piece.range.hi = in_block.some in
    limit-within (size_in s d.file) piece.index piece.range.hi (blocks_in s d.file) (count ∙ enough ∙ sym (ap blocks_for now)) (omega arith) in_block.within
    below

-- a mode that may do more than read may write
not_read_only : (mode : Mode) → is_read_only mode ≡ false → mode ≡ Rw
not_read_only R is = absurd (false≢true (sym is))
not_read_only Rw is = refl

-- a piece that the kernel has to do did not go direct, or missed
went_to_kernel : (missed direct : Bool) → (missed || not direct) ≡ true → (direct ≡ false) ⊎ (missed ≡ true)
went_to_kernel true direct is = inr refl
went_to_kernel false direct is = inl (not-true direct is)

refused_piece-keeps : (s : Store) (p : Place) (number : ℕ) (piece : Piece) (d : Descriptor) (reason : Reason) → piece_of_call p.call number ≡ Some piece →
    descriptor_of s p ≡ Some d → (has_missed number p.before || not (goes_direct d piece)) ≡ true →
    first_refusal s p.at.process p.call ≡ None → growth_reason_of s p (piece_end piece) ≡ Some reason → (rule : EntryRule) →
    FitsStore s p (entries.Refused p.at (Some number) reason) rule
refused_piece-keeps s p number piece d reason is of for_kernel allowed why RightWay =
    let missed = has_missed number p.before in (
      piece,
      is,
      subst (λ (slot : Option Descriptor). WentToKernel slot piece missed) (sym of) (went_to_kernel missed (goes_direct d piece) for_kernel),
    )
refused_piece-keeps s p number piece d reason is of for_kernel allowed why NotRefused =
    record { not_whole = allowed; first = ap (option_and_then (λ piece. growth_reason_of s p (piece_end piece))) is ∙ why }
refused_piece-keeps s p number piece d reason is of for_kernel allowed why rule = tt

module _ (s : Store) (at : At) (before : List Entry) (outstanding : List ℕ) (fd off : ℕ) (bytes : List ℕ) (act : Act) (e : Entry)
    (ready : IsReadyPlace s (running (Write fd off bytes) at before outstanding))
    (moves : Moves s (running (Write fd off bytes) at before outstanding).place outstanding act)
    (allowed : first_refusal s at.process (Write fd off bytes) ≡ None)
    (may : MayBegin s (running (Write fd off bytes) at before outstanding).place) where
  -- where the write stands
  abbrev here : Place
  here = (running (Write fd off bytes) at before outstanding).place

  is_open : descriptor_at s at.process fd ≡ Some moves.d
  is_open = moves.of

  -- its descriptor may write
  writes_mode : moves.d.mode ≡ Rw
  writes_mode =
      let named = open_descriptor s at.process fd (λ d. reason_if (is_read_only d.mode) reasons.ReadOnly) allowed in
      subst (λ (d : Descriptor). d.mode ≡ Rw) (same_Some named.0 moves.d (sym named.1 ∙ is_open))
      (not_read_only named.0.mode (reason_if-none (is_read_only named.0.mode) reasons.ReadOnly named.2))

  -- a piece of it is refused
  write-refused : (reason : Reason) → growth_reason_of s here (piece_end moves.piece) ≡ Some reason → entries.Refused at (Some moves.number) reason ≡ e →
      IsLegalAt s here e
  write-refused reason why same =
      subst (IsLegalAt s here) same
      (record {
        of_place = refl;
        of_call = record { kind = refl; fields = is_there (piece_of_call here.call moves.number) moves.piece moves.piece_is };
        once = moves.unanswered;
        keeps = refused_piece-keeps s here moves.number moves.piece moves.d reason moves.piece_is moves.of moves.for_kernel allowed why;
      })

  -- its file grows towards the end of a piece
  write-extends : (to : ℕ) → next_size (size_in s moves.d.file) (piece_end moves.piece) ≡ Some to →
      growth_reason_of s here (piece_end moves.piece) ≡ None → entry_of_act s here (acts.Extend moves.d.file to) ≡ Some e → IsLegalAt s here e
  write-extends to next room adds =
      extension_is_legal s here moves.d.file (piece_end moves.piece) to e
      (record {
        of = ap (option_map (λ (d : Descriptor). d.file)) is_open;
        kind = λ block. refl;
        opened = is_there (descriptor_at s at.process fd) moves.d is_open;
        goal_is = ap (option_map piece_end) (ap (option_and_then (piece_of_call here.call)) moves.found ∙ moves.piece_is);
        room = room;
        next = next;
        may_begin = may;
      })
      adds

  -- a piece of it is written
  write-accesses : next_size (size_in s moves.d.file) (piece_end moves.piece) ≡ None →
      entry_of_act s here (access_piece here moves.number moves.d) ≡ Some e → IsLegalAt s here e
  write-accesses reached adds =
      access_is_legal s here moves.number fd moves.piece moves.d e
      (record {
        named = refl;
        piece_is = moves.piece_is;
        of = moves.of;
        no_raw = refl;
        kind = λ way. refl;
        unanswered = moves.unanswered;
        for_kernel = moves.for_kernel;
        missed = λ missed. ready.missed moves.number moves.piece moves.d missed moves.piece_is moves.of;
        mode = λ writes. writes_mode;
        within = λ writes.
            let in_block = piece_of_call-in_block here.call moves.number moves.piece ready.within moves.piece_is in
            piece-within s at.process fd moves.d moves.piece ready.valid is_open in_block reached;
        may_begin = may;
      })
      adds

  write-acts : entry_of_act s here act ≡ Some e → IsLegalAt s here e
  write-acts adds =
      let number : ℕ = moves.number in
      let file : ℕ = moves.d.file in
      let end : ℕ = piece_end moves.piece in
      let grow : ℕ → Act = λ to. option_map_or (acts.Refuse (Some number)) (growth_reason_of s here end) (acts.Extend file to) in
      ⊎_elim {C = IsLegalAt s here e}
      (λ grows.
      ⊎_elim {C = IsLegalAt s here e}
      (λ refused.
      write-refused refused.0 refused.1 (same_Some (entries.Refused at (Some number) refused.0) e (ap (entry_of_act s here) refused.2 ∙ adds)))
      (λ room. write-extends grows.0 grows.1 room.0 (ap (entry_of_act s here) room.1 ∙ adds))
      (map_or_from (acts.Refuse (Some number)) (growth_reason_of s here end) (acts.Extend file grows.0) act grows.2))
      (λ reached. write-accesses reached.0 (ap (entry_of_act s here) reached.1 ∙ adds))
      (map_or_from grow (next_size (size_in s file) end) (access_piece here number moves.d) act moves.act_is)

write_is_legal : (fd off : ℕ) (bytes : List ℕ) → OwnIsLegal (Write fd off bytes)
write_is_legal fd off bytes s holders at before outstanding act e ready own adds =
    let call = Write fd off bytes in
    let moves = kernel_moves s holders (running call at before outstanding) act e own.own adds in
    let may = own.may_begin moves.none in
    let allowed : first_refusal s at.process call ≡ None =
    still_allowed before (first_refusal s at.process call) may (λ some. ready.allowed some refl) in
    write-acts s at before outstanding fd off bytes act e ready moves allowed may adds

pub writes_are_legal : (fd off : ℕ) (bytes : List ℕ) → NextIsLegal (Write fd off bytes)
writes_are_legal fd off bytes = next_from_own (Write fd off bytes) (write_is_legal fd off bytes)
