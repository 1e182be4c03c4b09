-- The entries that acts add: what is known of the descriptor, the file and the block that they name.
use Rattle.std.proofs.Common.{◌≡◌, ℕ, ◌<◌, [], length, Option, refl, sym, ◌∙◌, subst, arith}
use Rattle.std.specs.Prelude.{IsSome}
use Rattle.std.specs.Option.{IsSomeAnd, option_map}
use Rattle.bd_base.specs.declared.journal.At.{At}
use Rattle.bd_base.specs.declared.limits.TheConstants.{DESCRIPTORS}
use Rattle.bd_base.specs.declared.script.Call.{Call}
use Rattle.bd_entry.specs.declared.act.Act.{Act}
use Rattle.bd_entry.specs.declared.act.Act.TheVariants as acts
use Rattle.bd_entry.specs.declared.entry.Entry.{Entry}
use Rattle.bd_entry.specs.declared.entry.Entry.TheVariants as entries
use Rattle.bd_entry.specs.Actions.{entry_of_act}
use Rattle.bd_entry.specs.Calls.{Place, fd_of}
use Rattle.bd_entry.specs.Rules.{IsOpen}
use Rattle.bd_entry.specs.RulesOfRights.{HasRightDescriptor, IsOpenAt}
use Rattle.bd_entry.specs.Store.{Store, Valid, descriptor_at, slots_of}
use Rattle.bd_entry.proofs.NextActs.{map_from}
use Rattle.bd_entry.proofs.Slots.{row_within, slot_within, some_of}
use Rattle.bd_kernel.specs.Disks.{DiskState, IsDiskOf, disk_as}
use Rattle.bd_kernel.specs.Changes.{Rows, slot_at}
use Rattle.bd_machine.specs.Turns.{AddedAt, AttachesByOpen, IsEntryOf}

-- the disk of a store has its files, its bytes and its descriptors
pub disk_of_store : (disk : DiskState) (s : Store) → IsDiskOf disk s → disk_as disk s ≡ disk
disk_of_store disk s is =
    λ i. record { total = is.total i; files = is.files i; bytes = is.bytes i; rows = is.opens i; held = disk.held }

-- ---- entries by a descriptor

-- an open descriptor has a number that there is
pub open_fits : (s : Store) (process fd : ℕ) → Valid s → IsOpenAt s process fd → fd < DESCRIPTORS
open_fits s process fd valid is_open =
    let it = some_of (descriptor_at s process fd) is_open in
    let row : process < length s.opens = row_within s.opens process fd it.0 it.1 in
    let size : length (slots_of s process) ≡ DESCRIPTORS = valid.rows.slots process [] row in
    let there : fd < length (slots_of s process) = slot_within (slots_of s process) fd it.0 it.1 in
    omega arith

-- the act adds an entry that is made of its call and of an open descriptor
pub record IsMade (make : At → ℕ → Entry) (act : Act) : Type 0 where
  pub made : (s : Store) (p : Place) → entry_of_act s p act ≡ option_map (make p.at) (fd_of p)
  pub opens : (s : Store) (p : Place) (fd : ℕ) → HasRightDescriptor s p (make p.at fd) → IsOpenAt s p.at.process fd

-- the descriptor of such an act is open
pub fd_there : (make : At → ℕ → Entry) (disk : DiskState) (call : Call) (at : At) (fd : Option ℕ) (act : Act) (g : AddedAt) →
    IsMade make act → (asked : Act) → IsEntryOf disk call at fd asked g → asked ≡ act → IsSomeAnd fd (λ n. n < DESCRIPTORS)
fd_there make disk call at fd act g made asked asks same =
    let is : IsEntryOf disk call at fd act g = subst (λ (a : Act). IsEntryOf disk call at fd a g) same asks in
    let found = map_from (make g.place.at) (fd_of g.place) g.entry (sym (made.made g.store g.place) ∙ is.added) in
    let opens : HasRightDescriptor g.store g.place (make g.place.at found.0) =
    subst (HasRightDescriptor g.store g.place) (sym found.2) (is.legal.keeps IsOpen) in
    let fits : found.0 < DESCRIPTORS =
    open_fits g.store g.place.at.process found.0 is.valid (made.opens g.store g.place found.0 opens) in
    subst (λ (o : Option ℕ). IsSomeAnd o (λ n. n < DESCRIPTORS)) (sym (is.fd_is ∙ found.1)) fits

pub attaches : (part : ℕ) → IsMade (λ at fd. entries.Attached at fd part) (acts.Attach part)
attaches part = record { made = λ s p. refl; opens = λ s p fd is. is }

pub maps : (count : ℕ) → IsMade (λ at fd. entries.Mapped at fd count) (acts.Mapped count)
maps count = record { made = λ s p. refl; opens = λ s p fd is. is }

pub sizes : (size : ℕ) → IsMade (λ at fd. entries.Sized at fd size) (acts.Sized size)
sizes size = record { made = λ s p. refl; opens = λ s p fd is. is }

pub reads_size : (size : ℕ) → IsMade (λ at fd. entries.SizeRead at fd size) (acts.SizeRead size)
reads_size size = record { made = λ s p. refl; opens = λ s p fd is. is }

pub closes : IsMade (λ at fd. entries.Closed at fd) acts.Closed
closes = record { made = λ s p. refl; opens = λ s p fd is. is }

-- an entry that keeps the rule of descriptors attaches by an open one
pub attaches_by_open : (disk : DiskState) (s : Store) (p : Place) (e : Entry) → IsDiskOf disk s → HasRightDescriptor s p e →
    AttachesByOpen disk p.at.process e
attaches_by_open disk s p (entries.Attached at fd part) is opens =
    subst (λ (rows : Rows). IsSome (slot_at rows p.at.process fd)) is.opens opens
attaches_by_open disk s p e is opens = tt
