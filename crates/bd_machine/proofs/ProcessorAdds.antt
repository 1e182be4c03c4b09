-- A processor carries out an action that adds an entry.
use Rattle.std.proofs.Common.{◌≡◌, ℕ, ◌+◌, ◌*◌, true, false, List, [], ◌∷◌, Option, Some, refl, sym, ap, ◌∙◌, subst, unwrap_or}
use Rattle.std.specs.Prelude.{slice_range}
use Rattle.std.specs.Option.{option_map_or}
use Rattle.std.proofs.lemmas.Bool.{false≢true}
use Rattle.std.proofs.lemmas.Option.{same_Some}
use Rattle.bd_base.specs.declared.journal.At.{At}
use Rattle.bd_base.specs.declared.key.Cell.{Cell}
use Rattle.bd_base.specs.declared.limits.TheConstants.{PART_BLOCKS}
use Rattle.bd_base.specs.declared.script.Call.{Call}
use Rattle.bd_base.specs.declared.script.Script.{Script}
use Rattle.bd_base.specs.declared.volume.Inode.{Inode}
use Rattle.bd_base.specs.declared.volume.Volume.{Volume}
use Rattle.bd_base.specs.Scripts.{IsCall}
use Rattle.bd_entry.specs.declared.act.Act.{Act}
use Rattle.bd_entry.specs.declared.entry.Entry.{Entry}
use Rattle.bd_entry.specs.declared.entry.Entry.TheVariants as entries
use Rattle.bd_entry.specs.Actions.{entry_of_act}
use Rattle.bd_entry.specs.Calls.{Place, at_of, call_at, entries_of, fd_of, is_ended_by}
use Rattle.bd_entry.specs.Effects.{after_change, effect_of}
use Rattle.bd_entry.specs.NextEntries.{IsLegalAt}
use Rattle.bd_entry.specs.Rules.{IsOpen, place_in}
use Rattle.bd_entry.specs.Store.{Descriptor, Store, Valid, blocks_in, descriptor_at, user_of}
use Rattle.bd_entry.proofs.EffectsOnFiles.{effect_of-files}
use Rattle.bd_entry.proofs.Slots.{some_of}
use Rattle.bd_kernel.specs.Disks.{CanChange, DiskState, IsDiskOf, IsSoundEntry}
use Rattle.bd_kernel.specs.Marks.{HasPieceOf}
use Rattle.bd_kernel.specs.Turns as kernel
use Rattle.bd_kernel.proofs.DiskEntries.{can_change, has_piece, legal_is_sound}
use Rattle.bd_machine.specs.declared.parts.Parts.{Parts}
use Rattle.bd_machine.specs.declared.process.Process.{Process}
use Rattle.bd_machine.specs.Turns.{AreCellsFor, AreCellsIn, AttachesByOpen, CanChangeTables, IsEntryOf, NotesEntry, adds_entry, after_noting}
use Rattle.bd_machine.proofs.EntriesOfActs.{attaches_by_open}
use Rattle.bd_machine.proofs.ProcessorCommands.{kept}
use Rattle.bd_machine.proofs.ProcessorEntries.{AddsHere, adds_here, entry_there}
use Rattle.bd_machine.proofs.ProcessorReady.{Ready, place}
use Rattle.bd_turns.specs.Added.{IsAdded}
use Rattle.bd_turns.specs.Processors.{row_of_entry, running_of}
use Rattle.bd_turns.specs.State.{State, running}
use Rattle.bd_turns.specs.Turns.{cell_in, cells_from, cells_of_part}
use Rattle.bd_turns.proofs.EntriesOfCalls.{added_place}
use Rattle.bd_turns.proofs.FilesOfCalls.{descriptor_kept, store_after}
use Rattle.bd_turns.proofs.RunningPlaces.{ready, runs_at}
use Rattle.bd_tables.specs.declared.sides.Tables as sides

-- ---- the cells that an attach hands in

-- cells are those of the files
module _ (s t : Store) (file : ℕ) (same : t.files ≡ s.files) where
  from_same : (index : ℕ) (blocks : List ℕ) → cells_from t file index blocks ≡ cells_from s file index blocks
  from_same index [] = refl
  from_same index (block ∷ blocks) =
      let first : cell_in t file index block ≡ cell_in s file index block =
      ap (λ (files : List (Option Inode)). cell_in (record s { files = files }) file index block) same in
      ap (λ (c : Cell). c ∷ cells_from t file (index + 1) blocks) first
      ∙ ap (λ (cells : List Cell). cell_in s file index block ∷ cells) (from_same (index + 1) blocks)

  cells_same : (part : ℕ) → cells_of_part t file part ≡ cells_of_part s file part
  cells_same part =
      let first : ℕ = PART_BLOCKS * part in
      let blocks : blocks_in t file ≡ blocks_in s file =
      ap (λ (files : List (Option Inode)). blocks_in (record s { files = files }) file) same in
      ap (λ (l : List ℕ). cells_from t file first (slice_range l first (first + PART_BLOCKS))) blocks
      ∙ from_same first (slice_range (blocks_in s file) first (first + PART_BLOCKS))

-- the cells of a part before an attach are those after it
cells_in : (v : Volume) (m : State) (p : Place) (e : Entry) (disk : DiskState) (cells : List Cell) → IsAdded v m p e → Valid m.store →
    IsDiskOf disk m.store → AreCellsFor disk p.at.process e cells → AreCellsIn (store_after m.store p.call e) e cells
cells_in v m p (entries.Attached at fd part) disk cells added valid is are =
    λ d there.
    let e = entries.Attached at fd part in
    let t = store_after m.store p.call e in
    let before = some_of (descriptor_at m.store at.process fd) (added.next.keeps IsOpen) in
    let after = descriptor_kept (λ (x : Descriptor). x.file ≡ before.0.file) (λ a new file mode is. file ∙ is) m.store p.call e
    (added.next.keeps IsOpen) at.process fd (λ closes. absurd (false≢true closes)) (before.0, before.1, refl) in
    let same : after.0 ≡ d = same_Some after.0 d (sym after.1 ∙ there) in
    let file : d.file ≡ before.0.file = ap (λ (x : Descriptor). x.file) (sym same) ∙ after.2 in
    let files : t.files ≡ m.store.files = (effect_of-files m.store (place_in m.store p.call at) e).files in
    are m.store before.0 valid is (ap (λ (a : At). descriptor_at m.store a.process fd) (sym added.at_is) ∙ before.1)
    ∙ sym (cells_same m.store t before.0.file files part) ∙ ap (λ (f : ℕ). cells_of_part t f part) (sym file)
cells_in v m p e disk cells added valid is are = tt

-- ---- an action that adds an entry

module _ {T M P : Type 0} {K : sides.Ghosts T P} (script : Script) (x : Parts T M P) (m : State) (process : ℕ) (y : Process P) (c : kernel.Progress)
    (act : Act) (r : Ready K script x m process y c act) where
  abbrev p : Place
  p = place script x m process y c act r

  -- the place of this call in the state
  abbrev at_call : Call → At → Place
  at_call call at = record { call = call; at = at; before = entries_of at m.journal }

  -- the entry that it adds by the act
  abbrev entry_at : Call → At → Entry
  entry_at call at = unwrap_or (entry_of_act m.store (at_call call at) act) (entries.Closed at 0)

  same_place : (call : Call) (at : At) → p.call ≡ call → at ≡ p.at → at_call call at ≡ p
  same_place call at call_is at_is =
      let runs = runs_at m process p r.here.runs in
      let first : at_call call at ≡ at_call p.call p.at = λ i. record { call = sym call_is i; at = at_is i; before = entries_of (at_is i) m.journal } in
      first ∙ ap (λ (before : List Entry). record { call = p.call; at = p.at; before = before }) (sym runs.before_is)

  found_at : (call : Call) (at : At) (e : Entry) → p.call ≡ call → at ≡ p.at → entry_of_act m.store p act ≡ Some e →
      entry_of_act m.store (at_call call at) act ≡ Some e
  found_at call at e call_is at_is adds = ap (λ (q : Place). entry_of_act m.store q act) (same_place call at call_is at_is) ∙ adds

  -- so much is asked of the act as its entry is made
  pub is_entry_of : (call : Call) (at : At) (fd : Option ℕ) → adds_entry act ≡ true → p.call ≡ call → at ≡ p.at →
      fd ≡ fd_of p → IsCall call →
      IsEntryOf x.disk call at fd act (record { store = m.store; place = at_call call at; entry = entry_at call at })
  is_entry_of call at fd does call_is at_is fd_is within =
      let there = entry_there r.v m p act r.reached r.here.runs r.acts.next does in
      let adds = adds_here r.v m p act there.0 r.reached r.here.runs r.acts.next there.1 in
      let same = same_place call at call_is at_is in
      let found = found_at call at there.0 call_is at_is there.1 in
      let is : entry_at call at ≡ there.0 = ap (λ (o : Option Entry). unwrap_or o (entries.Closed at 0)) found in
      record {
        disk_is = r.here.shows.disk;
        valid = r.reached.sound.calls.valid;
        within = within;
        call_is = refl;
        at_is = refl;
        fd_is = fd_is ∙ ap fd_of (sym same);
        added = found ∙ ap Some (sym is);
        legal = subst (λ (q : Place). IsLegalAt m.store q (entry_at call at)) (sym same) (subst (IsLegalAt m.store p) (sym is) adds.legal);
      }

  -- and the entry that was made is the one of the turn
  pub adds_made : (call : Call) (at : At) (e : Entry) → adds_entry act ≡ true → p.call ≡ call → at ≡ p.at → e ≡ entry_at call at →
      AddsHere r.v m p act e
  adds_made call at e does call_is at_is made =
      let there = entry_there r.v m p act r.reached r.here.runs r.acts.next does in
      let found = found_at call at there.0 call_is at_is there.1 in
      let is : e ≡ there.0 = made ∙ ap (λ (o : Option Entry). unwrap_or o (entries.Closed at 0)) found in
      adds_here r.v m p act e r.reached r.here.runs r.acts.next (there.1 ∙ ap Some (sym is))

  module _ (e : Entry) (adds : AddsHere r.v m p act e) where
    pub attaches : AttachesByOpen x.disk process e
    attaches = attaches_by_open x.disk m.store p e r.here.shows.disk (adds.legal.keeps IsOpen)

    sound : IsSoundEntry m.store p e
    sound = legal_is_sound m.store (running_of m p) e (ready r.v m p r.reached r.here.runs adds.added.unfinished) adds.legal

    pub can_change_disk : CanChange x.disk e
    can_change_disk = can_change x.disk m.store p e r.here.shows.disk sound

    pub has_its_piece : HasPieceOf e
    has_its_piece = has_piece p e sound.within adds.legal.of_call

    -- the disk shows the entry's own change
    pub changed_is : (d : DiskState) (uid : ℕ) →
        ((s : Store) → IsDiskOf x.disk s → user_of s (at_of e).process ≡ uid → IsDiskOf d (after_change s e)) →
        user_of m.store process ≡ uid → IsDiskOf d (after_change m.store e)
    changed_is d uid effect user =
        effect m.store r.here.shows.disk (ap (λ (at : At). user_of m.store at.process) adds.added.at_is ∙ user)

    -- the store after the entry
    abbrev pub ghost_after : Store
    ghost_after =
        option_map_or (λ (call : Call). effect_of m.store (place_in m.store call (at_of e)) e) (call_at m.script (at_of e)) m.store

    pub after_is : ghost_after ≡ effect_of m.store p e
    after_is =
        ap (λ (o : Option Call). option_map_or (λ (call : Call). effect_of m.store (place_in m.store call (at_of e)) e) o m.store) adds.added.next.call_is
        ∙ ap (λ (q : Place). effect_of m.store q e) (added_place r.v m p e adds.added)

    module _ (d : DiskState) (changed : IsDiskOf d (after_change m.store e)) (z : Parts T M P) (noted : NotesEntry (record x { disk = d }) z process e) where
      -- so does the disk once the call took note of it
      pub noted_disk : IsDiskOf z.disk (effect_of m.store p e)
      noted_disk =
          let mine = kept script x m p y c r.here in
          let ended : is_ended_by c.call p.before ≡ false = ap (λ (k : Call). is_ended_by k p.before) mine.call ∙ adds.added.unfinished in
          subst (λ (k : Call). IsDiskOf z.disk (after_noting (after_change m.store e) k process p.before e)) mine.call
          (noted.disk y c p.before (after_change m.store e) r.here.there r.here.call_is mine.entries ended changed)

      -- and the tables can follow
      pub can_follow : (cells : List Cell) → AreCellsFor x.disk process e cells →
          CanChangeTables K z (record { process = (at_of e).process; before = m; after = ghost_after }) e cells
      can_follow cells are = record {
        tables = subst (λ (t : T). K.shows t m.tables) (sym noted.tables) r.here.shows.tables;
        reached = (r.v, r.reached);
        place = p;
        running_is = ap (λ (at : At). running m at.process) adds.added.at_is ∙ r.here.runs;
        row = row_of_entry e;
        adds = adds.acting;
        act = act;
        of_act = adds.adds;
        disk = subst (IsDiskOf z.disk) (sym after_is) noted_disk;
        after = after_is;
        cells_are =
            subst (λ (s : Store). AreCellsIn s e cells)
            (ap (λ (q : Place). effect_of m.store q e) (added_place r.v m p e adds.added) ∙ sym after_is)
            (cells_in r.v m p e x.disk cells adds.added r.reached.sound.calls.valid r.here.shows.disk are);
      }
