-- The tables and the store through each entry that a processor adds.
use Rattle.std.proofs.Common.{◌≡◌, ℕ, ◌<◌, ◌≤◌, Bool, true, false, not, [], length, Option, None, Some, IsSome, is_some, arith, refl, sym, ap, ◌∙◌, subst}
use Rattle.std.specs.Option.{option_map_or}
use Rattle.std.specs.FinMap as fin
use Rattle.std.proofs.lemmas.Bool.{both_ways, false≢true, not-true}
use Rattle.bd_base.specs.declared.journal.At.{At}
use Rattle.bd_base.specs.declared.limits.TheConstants.{DESCRIPTORS, FILE_SIZE, PARTS, PROCESSES}
use Rattle.bd_base.specs.declared.volume.Inode.{Inode}
use Rattle.bd_base.specs.declared.volume.Volume.{Volume}
use Rattle.bd_base.specs.Files.{blocks_for, parts_for}
use Rattle.bd_base.specs.Inodes.{blocks_of_slot}
use Rattle.bd_base.specs.Scripts.{IsWithinLimits}
use Rattle.bd_base.proofs.Ranges.{find-range_lowest}
use Rattle.bd_entry.specs.declared.entry.Entry.{Entry}
use Rattle.bd_entry.specs.declared.entry.Entry.TheVariants.{Attached, Cleared, Extended}
use Rattle.bd_entry.specs.Calls.{Place, call_at}
use Rattle.bd_entry.specs.Effects.{effect_of}
use Rattle.bd_entry.specs.Rules.{RightBlock, Rights as RightsRule, place_in}
use Rattle.bd_entry.specs.RulesOfRights.{Stands}
use Rattle.bd_entry.specs.Store.{Descriptor, Store, Valid, descriptor_at, file_in, has_part, lowest_unattached, parts_in, slots_of}
use Rattle.bd_entry.proofs.HistoryLaws.{process_there}
use Rattle.bd_entry.proofs.Slots.{row_within, slot_within, some_of}
use Rattle.bd_tables.specs.declared.state.Right.{Right}
use Rattle.bd_tables.specs.declared.state.RightState.{RightState}
use Rattle.bd_tables.specs.declared.state.RightState.TheVariants as states
use Rattle.bd_tables.specs.Effects as effects
use Rattle.bd_tables.specs.Effects.{new_right}
use Rattle.bd_tables.specs.Kernel.{IsAttachedIn, IsOn}
use Rattle.bd_tables.specs.Sound.{IsKey, IsOpen, IsSound}
use Rattle.bd_tables.specs.State.{Rights, TableState}
use Rattle.bd_tables.proofs.KernelSound.{attach_keeps, clear_keeps}
use Rattle.bd_turns.specs.declared.turn.Row.{Row}
use Rattle.bd_turns.specs.Added.{IsAdded}
use Rattle.bd_turns.specs.Processors as processors
use Rattle.bd_turns.specs.Processors.{next_action}
use Rattle.bd_turns.specs.Sound.{AreTablesSound, is_revoked}
use Rattle.bd_turns.specs.State.{State}
use Rattle.bd_turns.specs.Turns.{attached_tables, cells_of_part, may_write, tables_after}
use Rattle.bd_turns.proofs.AddedEntries.{FromAction, added_keeps, adds_from}
use Rattle.bd_turns.proofs.CellsOfGrowth.{padded-size, part_cells-look}
use Rattle.bd_turns.proofs.CellsOfPairs.{AreCells, KeepsFilesOf, are_cells, cells_of_attach, cells_of_states, cells_of_store}
use Rattle.bd_turns.proofs.FilesOfRights.{added_process, does_not_grow, keeps_files}
use Rattle.bd_turns.proofs.RunningPlaces.{runs_at}
use Rattle.bd_turns.proofs.RightsFit.{AllFit, Fits, all_fit, key_at}
use Rattle.bd_turns.proofs.RightsKept.{attached_there, rights_after_adding}
use Rattle.bd_turns.proofs.TableParts.{AreOpen, HasMarks, cleared_marks, marks_attach, marks_states, on_attached, on_states}
use Rattle.bd_turns.proofs.TablesOfGrowth.{HaveCells, tables_of_growth}

-- what holds of the tables and the store at every moment
pub record AreTablesOf (s : Store) (tables : TableState) : Type 0 where
  pub fit : AllFit tables.rights s
  pub cells : AreCells tables.rights tables.cells s
  pub marks : HasMarks tables.rights
  pub sound : IsSound tables
  pub open_keys : AreOpen tables.rights tables.walks

pub tables_of : (m : State) → AreTablesSound m → AreTablesOf m.store m.tables
tables_of m sound = record {
  fit = all_fit m sound.rights;
  cells = are_cells m sound.lookups sound.whole sound.used;
  marks = sound.marked;
  sound = sound.tables;
  open_keys = sound.open_keys;
}

-- the same tables with another store, whose rights and files are alike
pub same_tables : (s t : Store) (tables : TableState) → AllFit tables.rights t → KeepsFilesOf tables.rights s t → AreTablesOf s tables → AreTablesOf t tables
same_tables s t tables fit files are = record {
  fit = fit;
  cells = cells_of_store tables.rights tables.cells s t files are.cells;
  marks = are.marks;
  sound = are.sound;
  open_keys = are.open_keys;
}

-- ---- the key of an attach

-- the next part of a descriptor is not attached, and one of its file
record IsNextPart (s : Store) (d : Descriptor) (part : ℕ) : Type 0 where
  unattached : has_part part d.attached ≡ false
  within : part < parts_in s d.file

next_part_is : (s : Store) (d : Descriptor) (part : ℕ) → lowest_unattached s d ≡ Some part → IsNextPart s d part
next_part_is s d part lowest =
    let found = find-range_lowest (λ part. not (has_part part d.attached)) 0 (parts_in s d.file) part lowest in
    record { unattached = not-true (has_part part d.attached) found.passes; within = omega (arith, found.to) }

-- a file has no more parts than there are
few_parts : (s : Store) (file : ℕ) → Valid s → IsSome (file_in s file) → parts_in s file ≤ PARTS
few_parts s file valid some =
    let there = some_of (file_in s file) some in
    let f = there.0 in
    let sound = valid.volume.files.valid.each file f there.1 in
    let count : length f.blocks ≡ blocks_for f.size = sound.enough_blocks in
    let size : f.size ≤ FILE_SIZE = sound.size_in_range in
    let parts : parts_in s file ≡ parts_for (length f.blocks) = ap (λ (slot : Option Inode). parts_for (length (blocks_of_slot slot))) there.1 in
    omega arith

-- a descriptor that is open has a number that there is
few_descriptors : (s : Store) (process fd : ℕ) (d : Descriptor) → Valid s → descriptor_at s process fd ≡ Some d → fd < DESCRIPTORS
few_descriptors s process fd d valid there =
    let row : process < length s.opens = row_within s.opens process fd d there in
    let size : length (slots_of s process) ≡ DESCRIPTORS = valid.rows.slots process [] row in
    let within : fd < length (slots_of s process) = slot_within (slots_of s process) fd d there in
    omega arith

-- a process that runs a call is one that there may be
few_processes : (m : State) (p : Place) → IsWithinLimits m.script → IsSome (call_at m.script p.at) → p.at.process < PROCESSES
few_processes m p limits some =
    let call = some_of (call_at m.script p.at) some in
    let there : p.at.process < length m.script.processes = process_there m.script p.at call.0 call.1 in
    omega (arith, there, limits.process_count)

-- a key whose right is not attached in the store has none in the tables
pub unattached : (rights : Rights) (s : Store) (process fd part : ℕ) (d : Descriptor) → AllFit rights s → descriptor_at s process fd ≡ Some d →
    has_part part d.attached ≡ false → fin.get rights (key_at process fd part) ≡ None
unattached rights s process fd part d all there free =
    by (fin.get rights (key_at process fd part))
    (subst (Fits (key_at process fd part) (fin.get rights (key_at process fd part))) there (all (key_at process fd part)))
  where
    by : (r : Option Right) → Fits (key_at process fd part) r (Some d) → r ≡ None
    by None fits = refl
    by (Some right) fits = absurd (both_ways (has_part part d.attached) free fits.attached)

-- ---- the entries

-- what is known as a processor adds an entry
pub record Adding (v : Volume) (m : State) (p : Place) (e : Entry) : Type 0 where
  pub added : IsAdded v m p e
  pub from : FromAction m p e
  pub valid : Valid m.store
  pub limits : IsWithinLimits m.script
  pub tables : AreTablesOf m.store m.tables
  pub fit : let t = effect_of m.store (place_in m.store p.call p.at) e in AllFit (tables_after t m.tables e).rights t

-- the files with rights are the same after an entry that grows none
files_kept : (v : Volume) (m : State) (p : Place) (e : Entry) → Adding v m p e →
    ((at : At) (file to : ℕ) (block : Option ℕ) → e ≡ Extended at file to block → ⊥) →
    KeepsFilesOf m.tables.rights m.store (effect_of m.store (place_in m.store p.call p.at) e)
files_kept v m p e adding apart =
    keeps_files m.tables.rights m.store p (place_in m.store p.call p.at) e adding.valid adding.tables.fit (added_keeps v m p e adding.added)
    (added_process v m p e adding.added)
    (λ key right is.
    does_not_grow v m p e adding.added adding.from right.file (λ at file to block same. absurd (apart at file to block same)))

-- whether the entry grows a file
is_growth : Entry → Bool
is_growth (Extended at file to block) = true
is_growth e = false

tables_attached : (v : Volume) (m : State) (p : Place) (at : At) (fd part : ℕ) → Adding v m p (Attached at fd part) →
    let t = effect_of m.store (place_in m.store p.call p.at) (Attached at fd part) in
    AreTablesOf t (tables_after t m.tables (Attached at fd part))
unfolding is_growth
tables_attached v m p at fd part adding =
    let e = Attached at fd part in
    let s = m.store in
    let tables = m.tables in
    let place = place_in s p.call p.at in
    let t = effect_of s place e in
    let rights = added_keeps v m p e adding.added RightsRule in
    let d = rights.0 in
    let process_is : at.process ≡ p.at.process = ap (λ (a : At). a.process) adding.added.at_is in
    let there : descriptor_at s at.process fd ≡ Some d = ap (λ (n : ℕ). descriptor_at s n fd) process_is ∙ rights.1 in
    let next = next_part_is s d part rights.2.0 in
    let key = key_at at.process fd part in
    let none : fin.get tables.rights key ≡ None = unattached tables.rights s at.process fd part d adding.tables.fit there next.unattached in
    let few : p.at.process < PROCESSES =
    few_processes m p adding.limits (ap is_some (runs_at m p.at.process p adding.added.running_is).called) in
    let is_key : IsKey key = record {
      process = subst (λ (n : ℕ). n < PROCESSES) (sym process_is) few;
      fd = few_descriptors s at.process fd d adding.valid there;
      part = omega (arith, next.within, few_parts s d.file adding.valid (adding.valid.descriptors at.process fd d there).of_file);
    } in
    let new = attached_there s place at fd part d there in
    let file : ℕ = new.0.file in
    let write : Bool = may_write new.0.mode in
    let cells = cells_of_part t file part in
    let same : tables_after t tables e ≡ effects.attach tables key file write cells =
    ap (λ (o : Option Descriptor). option_map_or (attached_tables t tables at.process fd part) o tables) new.1 in
    let after : AreTablesOf t (effects.attach tables key file write cells) = record {
      fit = subst (λ (x : TableState). AllFit x.rights t) same adding.fit;
      cells =
          cells_of_attach tables.rights tables.cells t key file write cells none (padded-size cells) (part_cells-look t file part)
          (cells_of_store tables.rights tables.cells s t
          (files_kept v m p e adding (λ at file to block grows. false≢true (ap is_growth grows))) adding.tables.cells);
      marks = marks_attach tables.rights key file write adding.tables.marks;
      sound = attach_keeps tables adding.tables.sound key file write cells is_key none;
      open_keys = λ process request found is other.
          on_attached tables.rights key (new_right file write) request.key (λ right. IsOpen right.state) none
          (adding.tables.open_keys process request found is other);
    } in
    subst (AreTablesOf t) (sym same) after

-- a right that stands in the store is On
stands_on : (rights : Rights) (s : Store) (process fd part : ℕ) (d : Descriptor) → AllFit rights s → descriptor_at s process fd ≡ Some d →
    Stands part d → IsAttachedIn IsOn (fin.get rights (key_at process fd part))
stands_on rights s process fd part d all there stands =
    by (fin.get rights (key_at process fd part))
    (subst (Fits (key_at process fd part) (fin.get rights (key_at process fd part))) there (all (key_at process fd part)))
  where
    unrevoked : (state : RightState) → is_revoked state ≡ false → state ≡ states.On
    unrevoked states.On none = refl
    unrevoked states.Cleared none = absurd (false≢true (sym none))
    unrevoked (states.Drained swept) none = absurd (false≢true (sym none))

    by : (r : Option Right) → Fits (key_at process fd part) r (Some d) → IsAttachedIn IsOn r
    by None fits = absurd (both_ways (has_part part d.attached) fits stands.attached)
    by (Some right) fits = unrevoked right.state (sym fits.cleared ∙ stands.not_cleared)

tables_cleared : (v : Volume) (m : State) (p : Place) (at : At) (owner fd part : ℕ) → Adding v m p (Cleared at owner fd part) →
    let t = effect_of m.store (place_in m.store p.call p.at) (Cleared at owner fd part) in
    AreTablesOf t (tables_after t m.tables (Cleared at owner fd part))
unfolding is_growth
tables_cleared v m p at owner fd part adding =
    let e = Cleared at owner fd part in
    let s = m.store in
    let tables = m.tables in
    let t = effect_of s (place_in s p.call p.at) e in
    let key = key_at owner fd part in
    let rights = added_keeps v m p e adding.added RightsRule in
    record {
      fit = adding.fit;
      cells =
          cells_of_states tables.rights tables.cells t key (λ right. record right { state = states.Cleared }) (λ right. refl)
          (cells_of_store tables.rights tables.cells s t
          (files_kept v m p e adding (λ at file to block grows. false≢true (ap is_growth grows))) adding.tables.cells);
      marks = marks_states tables.rights key (λ state. states.Cleared) (λ right swept is same. cleared_marks swept same) adding.tables.marks;
      sound = clear_keeps tables adding.tables.sound key (stands_on tables.rights s owner fd part rights.0 adding.tables.fit rights.1 rights.2.0);
      open_keys = λ process request found is other.
          on_states tables.rights key (λ state. states.Cleared) request.key IsOpen (adding.tables.open_keys process request found is other)
          (λ right attached same was. tt);
    }

tables_extended : (v : Volume) (m : State) (p : Place) (at : At) (file to : ℕ) (block : Option ℕ) → Adding v m p (Extended at file to block) →
    let t = effect_of m.store (place_in m.store p.call p.at) (Extended at file to block) in
    AreTablesOf t (tables_after t m.tables (Extended at file to block))
tables_extended v m p at file to block adding =
    let e = Extended at file to block in
    let s = m.store in
    let tables = m.tables in
    let place = place_in s p.call p.at in
    let keeps = added_keeps v m p e adding.added in
    let the_file = keeps RightBlock in
    let after = tables_of_growth s p place at file to block tables adding.valid keeps the_file.0 the_file.1 adding.tables.fit
    (record { cells = adding.tables.cells; sound = adding.tables.sound }) in
    by block adding.fit after
  where
    t : Store
    t = effect_of m.store (place_in m.store p.call p.at) (Extended at file to block)

    by : (b : Option ℕ) → AllFit (tables_after t m.tables (Extended at file to b)).rights t →
        HaveCells t (tables_after t m.tables (Extended at file to b)) → AreTablesOf t (tables_after t m.tables (Extended at file to b))
    by None fit have = record {
      fit = fit;
      cells = have.cells;
      marks = adding.tables.marks;
      sound = have.sound;
      open_keys = adding.tables.open_keys;
    }
    by (Some b) fit have = record {
      fit = fit;
      cells = have.cells;
      marks = adding.tables.marks;
      sound = have.sound;
      open_keys = adding.tables.open_keys;
    }

-- an entry of a processor keeps the tables, whatever it is
tables_added : (v : Volume) (m : State) (p : Place) (e : Entry) → Adding v m p e →
    let t = effect_of m.store (place_in m.store p.call p.at) e in AreTablesOf t (tables_after t m.tables e)
unfolding is_growth
tables_added v m p (Attached at fd part) adding = tables_attached v m p at fd part adding
tables_added v m p (Cleared at owner fd part) adding = tables_cleared v m p at owner fd part adding
tables_added v m p (Extended at file to block) adding = tables_extended v m p at file to block adding
tables_added v m p e adding =
    let t = effect_of m.store (place_in m.store p.call p.at) e in
    same_tables m.store t m.tables adding.fit
    (files_kept v m p e adding (λ at file to block grows. false≢true (ap is_growth grows)))
    adding.tables

-- an entry that a processor adds keeps the tables
pub tables_after_adding : (v : Volume) (m : State) (p : Place) (row : Row) (e : Entry) → IsAdded v m p e →
    next_action m p ≡ Some (processors.Adds row e) → Valid m.store → IsWithinLimits m.script → AreTablesOf m.store m.tables →
    let t = effect_of m.store (place_in m.store p.call p.at) e in AreTablesOf t (tables_after t m.tables e)
tables_after_adding v m p row e added acting valid limits tables =
    tables_added v m p e (record {
      added = added;
      from = adds_from m p row e acting;
      valid = valid;
      limits = limits;
      tables = tables;
      fit = rights_after_adding v m p row e added acting tables.fit;
    })
