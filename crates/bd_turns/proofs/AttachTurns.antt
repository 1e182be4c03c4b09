-- Each right that is attached leaves its call one turn fewer.
use Rattle.std.proofs.Common.{◌≡◌, ℕ, zero, suc, ◌+◌, ◌<◌, ◌≤◌, Bool, true, false, not, cond, List, [], ◌∷◌, ◌++◌, length, Option, None, Some, refl, sym, ap, ◌∙◌, subst, arith, ⊎_elim}
use Rattle.std.specs.Prelude.{All, nat_eq, nat_lt, slice_index}
use Rattle.std.specs.Option.{option_map}
use Rattle.std.specs.List.{range_with_len}
use Rattle.std.specs.List.Sorted.{IsStrictlyIncreasing}
use Rattle.std.proofs.lemmas.Bool.{false≢true, or_parts}
use Rattle.bd_base.specs.declared.journal.At.{At}
use Rattle.bd_base.specs.declared.script.Call.{Call}
use Rattle.bd_base.specs.declared.volume.Inode.{Inode}
use Rattle.bd_base.specs.Files.{blocks_for}
use Rattle.bd_base.specs.Inodes.{blocks_of_slot}
use Rattle.bd_entry.specs.declared.entry.Entry.{Entry}
use Rattle.bd_entry.specs.declared.entry.Entry.TheVariants as entries
use Rattle.bd_entry.specs.Calls.{fd_of_call, is_ended_by}
use Rattle.bd_entry.specs.Effects as effects
use Rattle.bd_entry.specs.Effects.{after_change, after_telling, effect_of, tells_size, with_known_size}
use Rattle.bd_entry.specs.Store.{Descriptor, Store, Valid, blocks_in, descriptor_at, file_in, has_part, lowest_unattached, parts_in, with_part, work_of}
use Rattle.bd_entry.proofs.DescriptorSteps.{after_call-cases, change-here}
use Rattle.bd_entry.proofs.Slots.{some_of}
use Rattle.bd_turns.specs.Rest.{part_turns}
use Rattle.bd_turns.proofs.FilesOfCalls.{store_after}
use Rattle.bd_turns.proofs.RightsOnFiles.{find-passes}

-- ---- sets of parts

-- a number of an ascending list is at least its index
at_least : (xs : List ℕ) → IsStrictlyIncreasing xs → (k : ℕ) → k < length xs → k ≤ slice_index xs k
at_least xs up zero within = omega arith
at_least xs up (suc k) within =
    let before : k ≤ slice_index xs k = at_least xs up k (omega arith) in
    let next : slice_index xs k < slice_index xs (k + 1) = up k (omega arith) in
    let same : k + 1 ≡ suc k = omega arith in
    subst (λ (i : ℕ). suc k ≤ slice_index xs i) same (omega arith)

-- so an ascending list of numbers below a bound is no longer than that
few_below : (xs : List ℕ) (bound : ℕ) → IsStrictlyIncreasing xs → All (λ x. x < bound) xs → length xs ≤ bound
few_below [] bound up all = omega arith
few_below (x ∷ xs) bound up all =
    let last : ℕ = length xs in
    let within : last < length (x ∷ xs) = omega arith in
    let least : last ≤ slice_index (x ∷ xs) last = at_least (x ∷ xs) up last within in
    let most : slice_index (x ∷ xs) last < bound = all last 0 within in
    omega arith

-- a part that joins a set makes it longer by one
length-with_part : (part : ℕ) (xs : List ℕ) → has_part part xs ≡ false → length (with_part part xs) ≡ length xs + 1
length-with_part part [] none = refl
length-with_part part (x ∷ xs) none =
    let parts = or_parts (nat_eq part x) (has_part part xs) none in
    let rest : length (with_part part xs) ≡ length xs + 1 = length-with_part part xs parts.1 in
    by (nat_lt part x) (nat_eq part x) parts.0 rest
  where
    by : (below same : Bool) → same ≡ false → length (with_part part xs) ≡ length xs + 1 →
        length (cond below (part ∷ x ∷ xs) (cond same (x ∷ xs) (x ∷ with_part part xs))) ≡ length (x ∷ xs) + 1
    by true same apart rest = omega arith
    by false true apart rest = absurd (false≢true (sym apart))
    by false false apart rest = omega arith

-- ---- rights of a descriptor

-- the descriptor after a right was attached by it
pub attached_slot : (s : Store) (call : Call) (at : At) (fd part : ℕ) (d : Descriptor) → descriptor_at s at.process fd ≡ Some d →
    (new : Descriptor) × (descriptor_at (store_after s call (entries.Attached at fd part)) at.process fd ≡ Some new)
    × (new.attached ≡ with_part part d.attached) × (new.file ≡ d.file) × (new.mode ≡ d.mode)
attached_slot s call at fd part d is =
    let e : Entry = entries.Attached at fd part in
    let changed : descriptor_at (after_change s e) at.process fd ≡ Some (effects.attach part d) =
    change-here s at.process fd (effects.attach part) ∙ ap (option_map (effects.attach part)) is in
    let entries = work_of s at.process ++ e ∷ [] in
    let after = store_after s call e in
    ⊎_elim
    (λ same. (effects.attach part d, same ∙ changed, refl, refl, refl))
    (λ known. (with_known_size (effects.attach part d), known.3 ∙ ap (option_map with_known_size) changed, refl, refl, refl))
    (after_call-cases (is_ended_by call entries) (after_telling (tells_size e) (after_change s e) at.process (fd_of_call call entries)) at.process
    (fd_of_call call entries) entries at.process fd)

-- a descriptor of a valid store has few rights
few_rights : (s : Store) (process fd : ℕ) (d : Descriptor) → Valid s → descriptor_at s process fd ≡ Some d → length d.attached ≤ 8
few_rights s process fd d valid is =
    let sound = valid.descriptors process fd d is in
    let f = some_of (file_in s d.file) sound.of_file in
    let file = valid.volume.files.valid.each d.file f.0 f.1 in
    let blocks : length (blocks_in s d.file) ≡ length f.0.blocks = ap (λ (slot : Option Inode). length (blocks_of_slot slot)) f.1 in
    let enough : length f.0.blocks ≡ blocks_for f.0.size = file.enough_blocks in
    let small : f.0.size ≤ 16777216 = file.size_in_range in
    let most : length (blocks_in s d.file) ≤ 4096 = omega (arith, blocks, enough, small) in
    let parts : parts_in s d.file ≤ 8 = omega (arith, most) in
    let few : length d.attached ≤ parts_in s d.file = few_below d.attached (parts_in s d.file) sound.ascending sound.parts in
    omega (arith, few, parts)

-- a right that is attached on the lowest part without one leaves one part fewer
pub attach_falls : (s : Store) (call : Call) (at : At) (fd part : ℕ) (d : Descriptor) → descriptor_at s at.process fd ≡ Some d →
    lowest_unattached s d ≡ Some part → Valid (store_after s call (entries.Attached at fd part)) →
    part_turns (descriptor_at (store_after s call (entries.Attached at fd part)) at.process fd) + 1 ≤ part_turns (descriptor_at s at.process fd)
attach_falls s call at fd part d is lowest valid =
    let after : Store = store_after s call (entries.Attached at fd part) in
    let new = attached_slot s call at fd part d is in
    let few : length new.0.attached ≤ 8 = few_rights after at.process fd new.0 valid new.1 in
    let unattached : has_part part d.attached ≡ false =
    not_true (has_part part d.attached) (find-passes (λ part. not (has_part part d.attached)) (range_with_len 0 (parts_in s d.file)) part lowest) in
    let more : length new.0.attached ≡ length d.attached + 1 =
    ap (λ (xs : List ℕ). length xs) new.2 ∙ length-with_part part d.attached unattached in
    let old_turns : part_turns (descriptor_at s at.process fd) ≡ part_turns (Some d) = ap part_turns is in
    let new_turns : part_turns (descriptor_at after at.process fd) ≡ part_turns (Some new.0) = ap part_turns new.1 in
    omega (arith, few, more, old_turns, new_turns)
  where
    not_true : (b : Bool) → not b ≡ true → b ≡ false
    not_true true is = absurd (false≢true is)
    not_true false is = refl

-- no descriptor leaves more than one turn for each part
pub part_bound : (slot : Option Descriptor) → part_turns slot ≤ 9
part_bound None = omega arith
part_bound (Some d) = omega arith
