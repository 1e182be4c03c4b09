-- What is known of an entry of an act that changes the tables.
use Rattle.std.proofs.Common.{◌≡◌, ℕ, false, List, Option, Some, refl, sym, ap, ◌∙◌, subst}
use Rattle.std.specs.Option.{option_and_then, option_map}
use Rattle.std.proofs.lemmas.Bool.{false≢true}
use Rattle.std.proofs.lemmas.Option.{none-some, same_Some}
use Rattle.bd_base.specs.declared.journal.At.{At}
use Rattle.bd_base.specs.declared.key.Cell.{Cell}
use Rattle.bd_base.specs.declared.script.Call.{Call}
use Rattle.bd_base.specs.declared.script.Call.TheVariants.{Enter, Create}
use Rattle.bd_base.specs.declared.volume.Inode.{Inode}
use Rattle.bd_base.specs.declared.volume.Volume.{Volume}
use Rattle.bd_base.specs.Inodes.{free_id, growth_block}
use Rattle.bd_entry.specs.declared.act.Act.{Act}
use Rattle.bd_entry.specs.declared.act.Act.TheVariants as acts
use Rattle.bd_entry.specs.declared.entry.Entry.{Entry}
use Rattle.bd_entry.specs.declared.entry.Entry.TheVariants as entries
use Rattle.bd_entry.specs.Actions.{created_entry, entry_of_act, kernel_entry, opened_entry}
use Rattle.bd_entry.specs.Calls.{Place, fd_of, piece_of_call}
use Rattle.bd_entry.specs.Effects.{effect_of}
use Rattle.bd_entry.specs.Refusals.{descriptor_of, file_of}
use Rattle.bd_entry.specs.Rules.{EntryRule, FitsStore}
use Rattle.bd_entry.specs.Store.{Store, Valid, blocks_in, file_in}
use Rattle.bd_entry.proofs.NextActs.{map_from, then_from}
use Rattle.bd_machine.specs.declared.parts.Parts.{Parts}
use Rattle.bd_machine.specs.Turns.{CanChangeTables, TableChange}
use Rattle.bd_tables.specs.Kernel.{KernelState}
use Rattle.bd_tables.specs.Plain.{cells_of}
use Rattle.bd_tables.specs.Seen.{IsKernelOf}
use Rattle.bd_tables.specs.State.{CellMap, Rights, TableState}
use Rattle.bd_turns.specs.Added.{IsAdded, by_processor}
use Rattle.bd_turns.specs.Reached.{IsReached}
use Rattle.bd_turns.specs.Sound.{is_clear}
use Rattle.bd_turns.specs.State.{State, running}
use Rattle.bd_turns.specs.Turns.{tables_after}
use Rattle.bd_turns.proofs.AddedEntries.{added_keeps}
use Rattle.bd_turns.proofs.LegalTurns.{turns_add_legally}
use Rattle.bd_turns.proofs.RunningPlaces.{runs_at}
use Rattle.bd_turns.proofs.CellsOfPairs.{AreCells}
use Rattle.bd_turns.proofs.RightsFit.{AllFit}
use Rattle.bd_turns.proofs.TablesOfEntries.{AreTablesOf}
use Rattle.bd_turns.proofs.TablesOfEntries as sound_tables
use Rattle.bd_tables.specs.declared.sides.Tables as sides

-- what is known of an entry that changes the tables
pub record Changes {T M P : Type 0} (x : Parts T M P) (g : TableChange) (e : Entry) (cells : List Cell) : Type 0 where
  pub place : Place
  pub volume : Volume
  pub added : IsAdded volume g.before place e
  pub keeps : (rule : EntryRule) → FitsStore g.before.store place e rule
  pub valid : Valid g.before.store
  pub tables : AreTablesOf g.before.store g.before.tables
  pub after : g.after ≡ effect_of g.before.store place e

pub changes : {T M P : Type 0} {K : sides.Ghosts T P} (x : Parts T M P) (g : TableChange) (e : Entry) (cells : List Cell) →
    CanChangeTables K x g e cells → Changes x g e cells
changes x g e cells can =
    let m : State = g.before in
    let v : Volume = can.reached.0 in
    let reached : IsReached v m = can.reached.1 in
    let p : Place = can.place in
    let at_is = (runs_at m g.process p can.running_is).at_is in
    let same : g.process ≡ p.at.process = ap (λ (at : At). at.process) (sym at_is) in
    let runs : running m p.at.process ≡ Some p = ap (running m) (sym same) ∙ can.running_is in
    let added : IsAdded v m p e = turns_add_legally v m reached p e (by_processor can.row runs can.adds) in
    record {
      place = p;
      volume = v;
      added = added;
      keeps = added_keeps v m p e added;
      valid = reached.sound.calls.valid;
      tables = sound_tables.tables_of m reached.sound.tables_are;
      after = can.after;
    }

-- what the kernel's side sees of such tables is of the store too
pub record SeesTablesOf (s : Store) (kernel : KernelState) : Type 0 where
  pub fit : AllFit kernel.rights s
  pub cells : AreCells kernel.rights (cells_of kernel.book) s

pub kernel_sees : (s : Store) (kernel : KernelState) (t : TableState) → IsKernelOf kernel t → AreTablesOf s t → SeesTablesOf s kernel
kernel_sees s kernel t seen tables =
    record {
      fit = subst (λ (r : Rights). AllFit r s) (sym seen.rights) tables.fit;
      cells =
          subst (λ (r : Rights). AreCells r (cells_of kernel.book) s) (sym seen.rights)
          (subst (λ (c : CellMap). AreCells t.rights c s) (sym seen.cells) tables.cells);
    }

-- ---- no act clears a right by its own entry

opened_clears : (p : Place) (call : Call) (file fd : ℕ) (e : Entry) → opened_entry p call file fd ≡ Some e → is_clear e ≡ false
opened_clears p (Enter name mode how) file fd e is = ap is_clear (sym (same_Some (entries.Opened p.at file fd mode how) e is))
opened_clears p call file fd e is = absurd (none-some e is)

created_clears : (s : Store) (p : Place) (call : Call) (e : Entry) → created_entry s p call ≡ Some e → is_clear e ≡ false
created_clears s p (Create name perms) e is =
    let found = map_from (λ file. entries.Created p.at file name perms) (free_id s.files) e is in ap is_clear (sym found.2)
created_clears s p call e is = absurd (none-some e is)

pub act_clears_none : (s : Store) (p : Place) (act : Act) (e : Entry) → entry_of_act s p act ≡ Some e → is_clear e ≡ false
act_clears_none s p (acts.Busy file holder) e is = absurd (none-some e is)
act_clears_none s p (acts.Refuse piece reason) e is = ap is_clear (sym (same_Some (entries.Refused p.at piece reason) e is))
act_clears_none s p (acts.Opened file fd) e is = opened_clears p p.call file fd e is
act_clears_none s p acts.Created e is = created_clears s p p.call e is
act_clears_none s p (acts.Attach part) e is =
    let found = map_from (λ fd. entries.Attached p.at fd part) (fd_of p) e is in ap is_clear (sym found.2)
act_clears_none s p (acts.Mapped count) e is =
    let found = map_from (λ fd. entries.Mapped p.at fd count) (fd_of p) e is in ap is_clear (sym found.2)
act_clears_none s p (acts.Revoke keys) e is = absurd (none-some e is)
act_clears_none s p (acts.Extend file to) e is =
    let found = map_from (λ (f : Inode). entries.Extended p.at file to (growth_block s.total s.files f)) (file_in s file) e is in
    ap is_clear (sym found.2)
act_clears_none s p (acts.Release file) e is =
    let blocks = blocks_in s file in
    let found = map_from (entries.Released p.at file _) _ e is in ap is_clear (sym found.2)
act_clears_none s p (acts.Submit piece) e is = absurd (none-some e is)
act_clears_none s p acts.Poll e is = absurd (none-some e is)
act_clears_none s p (acts.Access number way) e is =
    let by_fd =
    then_from
    (λ fd. option_and_then (λ piece. option_map (kernel_entry s p number way fd piece) (descriptor_of s p)) (piece_of_call p.call number))
    (fd_of p) e is in
    let by_piece =
    then_from (λ piece. option_map (kernel_entry s p number way by_fd.0 piece) (descriptor_of s p)) (piece_of_call p.call number) e by_fd.2 in
    let found = map_from (kernel_entry s p number way by_fd.0 by_piece.0) (descriptor_of s p) e by_piece.2 in
    ap is_clear (sym found.2)
act_clears_none s p (acts.Sized size) e is =
    let found = map_from (λ fd. entries.Sized p.at fd size) (fd_of p) e is in ap is_clear (sym found.2)
act_clears_none s p (acts.SizeRead size) e is =
    let found = map_from (λ fd. entries.SizeRead p.at fd size) (fd_of p) e is in ap is_clear (sym found.2)
act_clears_none s p acts.Closed e is =
    let found = map_from (entries.Closed p.at) (fd_of p) e is in ap is_clear (sym found.2)
act_clears_none s p acts.Unlinked e is =
    let found = map_from (entries.Unlinked p.at) (file_of s p) e is in ap is_clear (sym found.2)

-- an entry that attaches nothing, grows no file and clears nothing leaves the tables
pub tables_stay : (t : Store) (tables : TableState) (e : Entry) → is_clear e ≡ false →
    ((at : At) (fd part : ℕ) → e ≡ entries.Attached at fd part → ⊥) →
    ((at : At) (file to : ℕ) (block : Option ℕ) → e ≡ entries.Extended at file to block → ⊥) → tables_after t tables e ≡ tables
tables_stay t tables (entries.Attached at fd part) clears attaches grows = absurd (attaches at fd part refl)
tables_stay t tables (entries.Cleared at owner fd part) clears attaches grows = absurd (false≢true (sym clears))
tables_stay t tables (entries.Extended at file to block) clears attaches grows = absurd (grows at file to block refl)
tables_stay t tables e clears attaches grows = refl
