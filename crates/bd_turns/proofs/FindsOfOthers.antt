-- What a walk missed for may be noted still, at a later place of its call, after what another process added.
use Rattle.std.proofs.Common.{◌≡◌, ◌≢◌, inl, inr, ℕ, ◌-◌, ◌*◌, ◌<◌, ◌≤◌, min, Bool, true, List, [], length, Option, None, Some, arith, refl, sym, ap, ◌∙◌, subst}
use Rattle.std.specs.Prelude.{nat_lt}
use Rattle.std.specs.Option.{option_and_then}
use Rattle.std.proofs.lemmas.Bool.{both_ways, cases_lt, cond-false, le-ltb}
use Rattle.std.proofs.lemmas.Option.{slice_get_within}
use Rattle.bd_base.specs.declared.journal.At.{At}
use Rattle.bd_base.specs.declared.journal.Found.{Found}
use Rattle.bd_base.specs.declared.journal.Found.TheVariants.{NoDirectory}
use Rattle.bd_base.specs.declared.limits.TheConstants.{BLOCK_SIZE}
use Rattle.bd_base.specs.declared.script.Call.{Call}
use Rattle.bd_base.specs.declared.volume.Inode.{Inode}
use Rattle.bd_base.specs.declared.volume.Volume.{Volume}
use Rattle.bd_base.specs.Files.{limit_of}
use Rattle.bd_base.specs.Pieces.{Piece}
use Rattle.bd_entry.specs.declared.entry.Entry.{Entry}
use Rattle.bd_entry.specs.declared.entry.Entry.TheVariants.{Missed}
use Rattle.bd_entry.specs.Calls.{Place, does_write, fd_of, fd_of_call, piece_of_call}
use Rattle.bd_entry.specs.Effects.{after_change, effect_of}
use Rattle.bd_entry.specs.Refusals.{descriptor_of}
use Rattle.bd_entry.specs.Rules.{place_in}
use Rattle.bd_entry.specs.RulesOfRights.{HasRights, MayMiss, part_of}
use Rattle.bd_entry.specs.Store.{Descriptor, Store, Valid, blocks_in, descriptor_at, has_part, limit_in, size_in}
use Rattle.bd_entry.proofs.Descriptors.{rights-on}
use Rattle.bd_entry.proofs.EffectsOnFiles.{effect_of-files}
use Rattle.bd_entry.proofs.StayingFiles.{FileStays, file_with_rights_stays}
use Rattle.bd_turns.specs.Added.{IsAdded}
use Rattle.bd_turns.specs.State.{State}
use Rattle.bd_turns.proofs.CellsOfFiles.{limit_there, some_at}
use Rattle.bd_turns.proofs.FindsKept.{Detaches, may_miss_still, slots_of_other}
use Rattle.bd_turns.proofs.HandFrames.{IsSameCall}
use Rattle.bd_turns.proofs.PieceCalls.{fd_of_pieces}
use Rattle.bd_turns.proofs.RightsFit.{key_at}

-- ---- limits of files with rights

limit_none : (size : ℕ) (blocks : List ℕ) (index : ℕ) → length blocks ≤ index → limit_of size blocks index ≡ 0
limit_none size blocks index past =
    cond-false (nat_lt index (length blocks)) (min BLOCK_SIZE (size - BLOCK_SIZE * index)) 0 (le-ltb index (length blocks) past)

-- a file that stays has no lower limit
limit_stays : (s t : Store) (id index : ℕ) → FileStays s id t → limit_in s id index ≤ limit_in t id index
limit_stays s t id index stays = elim (cases_lt index (length (blocks_in s id))) [
  | inl within ↦
      let block = some_at (blocks_in s id) index within in
      let there : index < length (blocks_in t id) = slice_get_within (blocks_in t id) index block.0 (stays.blocks index block.0 block.1) in
      omega (arith, limit_there (size_in s id) (blocks_in s id) index within, limit_there (size_in t id) (blocks_in t id) index there, stays.size)
  | inr past ↦ omega (arith, limit_none (size_in s id) (blocks_in s id) index past)
]

-- nor has one on which a right is attached, after an entry
limit_after : (v : Volume) (m : State) (p : Place) (e : Entry) (q : Place) → IsAdded v m p e → Valid m.store → (process fd : ℕ) (d : Descriptor) →
    descriptor_at m.store process fd ≡ Some d → (part index : ℕ) → has_part part d.attached ≡ true →
    limit_in m.store d.file index ≤ limit_in (effect_of m.store q e) d.file index
limit_after v m p e q added valid process fd d there part index attached =
    let s = m.store in
    let some : d.attached ≢ [] = λ none. both_ways (has_part part d.attached) (ap (has_part part) none) attached in
    let stays : FileStays s d.file (after_change s e) =
    file_with_rights_stays s p.call e d.file added.next.keeps (valid.descriptors process fd d there).of_file (rights-on s process fd d there some) in
    let more = limit_stays s (after_change s e) d.file index stays in
    let same : limit_in (effect_of s q e) d.file index ≡ limit_in (after_change s e) d.file index =
    ap (λ (files : List (Option Inode)). limit_in (record s { files = files }) d.file index) (effect_of-files s q e).files in
    omega (arith, more, same)

-- ---- the rule of rights for a miss

-- it rests on the slot of the call's descriptor
pub misses_still : (s t : Store) (p after : Place) (number : ℕ) (found : Found) → IsSameCall p after →
    ((fd : ℕ) (piece : Piece) → fd_of p ≡ Some fd → piece_of_call p.call number ≡ Some piece →
    MayMiss s (does_write p.call) (descriptor_at s p.at.process fd) found piece →
    MayMiss t (does_write p.call) (descriptor_at t p.at.process fd) found piece) →
    HasRights s p (Missed p.at number found) → HasRights t after (Missed after.at number found)
misses_still s t p after number found same still may =
    let piece = may.0 in
    let piece_is : piece_of_call after.call number ≡ Some piece = ap (λ (c : Call). piece_of_call c number) (sym same.call) ∙ may.1 in
    let fd_is : fd_of after ≡ fd_of p =
    fd_of_pieces after.call number piece after.before p.before piece_is ∙ ap (λ (c : Call). fd_of_call c p.before) (sym same.call) in
    let descriptor : descriptor_of t after ≡ option_and_then (descriptor_at t p.at.process) (fd_of p) =
    ap (λ (a : At). option_and_then (descriptor_at t a.process) (fd_of after)) (sym same.at)
    ∙ ap (option_and_then (descriptor_at t p.at.process)) fd_is in
    let after_writes : MayMiss t (does_write p.call) (option_and_then (descriptor_at t p.at.process) (fd_of p)) found piece =
    by (fd_of p) refl piece may.1 may.2 in (
      piece,
      piece_is,
      subst (λ (slot : Option Descriptor). MayMiss t (does_write after.call) slot found piece) (sym descriptor)
          (subst (λ (c : Call). MayMiss t (does_write c) (option_and_then (descriptor_at t p.at.process) (fd_of p)) found piece) same.call after_writes),
    )
  where
    bare : (writes : Bool) (found : Found) (piece : Piece) → MayMiss s writes None found piece → MayMiss t writes None found piece
    bare writes NoDirectory piece may = may
    bare writes other piece may = may

    by : (fd : Option ℕ) → fd_of p ≡ fd → (piece : Piece) → piece_of_call p.call number ≡ Some piece →
        MayMiss s (does_write p.call) (option_and_then (descriptor_at s p.at.process) fd) found piece →
        MayMiss t (does_write p.call) (option_and_then (descriptor_at t p.at.process) fd) found piece
    by None is piece piece_is may = bare (does_write p.call) found piece may
    by (Some fd) is piece piece_is may = still fd piece is piece_is may

-- so it holds still where the store did not change
pub misses_same : (s : Store) (p after : Place) (number : ℕ) (found : Found) → IsSameCall p after → HasRights s p (Missed p.at number found) →
    HasRights s after (Missed after.at number found)
misses_same s p after number found same may = misses_still s s p after number found same (λ fd piece fd_is piece_is may. may) may

-- and after an entry of another process, if that does not detach the right that was found
pub misses_after_other : (v : Volume) (m : State) (p : Place) (e : Entry) → IsAdded v m p e → Valid m.store → (q after : Place) (number : ℕ) (found : Found) →
    IsSameCall q after → q.at.process ≢ p.at.process →
    ((fd : ℕ) (piece : Piece) → fd_of q ≡ Some fd → piece_of_call q.call number ≡ Some piece → found ≢ NoDirectory →
    ¬ Detaches (key_at q.at.process fd (part_of piece.index)) e) →
    HasRights m.store q (Missed q.at number found) →
    HasRights (effect_of m.store (place_in m.store p.call p.at) e) after (Missed after.at number found)
misses_after_other v m p e added valid q after number found same other stays may =
    let s = m.store in
    let place = place_in s p.call p.at in
    misses_still s (effect_of s place e) q after number found same
    (λ fd piece fd_is piece_is was.
    may_miss_still s (effect_of s place e) (key_at q.at.process fd (part_of piece.index)) e (does_write q.call) piece found
    (descriptor_at s q.at.process fd) (descriptor_at (effect_of s place e) q.at.process fd)
    (slots_of_other s place e q.at.process fd (part_of piece.index) (ap (λ (a : At). a.process) added.at_is) other)
    refl (stays fd piece fd_is piece_is)
    (λ d there attached. limit_after v m p e place added valid q.at.process fd d there (part_of piece.index) piece.index attached)
    was)
    may
