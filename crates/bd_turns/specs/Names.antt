-- Which translations are held, and what they name: each law is the contract of a function of src/promises.rt.
use Rattle.std.specs.Prelude.{◌≡◌, ◌≢◌, ℕ, ◌/◌, ◌≤◌, true, [], ◌∷◌, slice_get, Some}
use Rattle.bd_base.specs.declared.journal.At.{At}
use Rattle.bd_base.specs.declared.key.Cell.{Cell}
use Rattle.bd_base.specs.declared.key.Key.{Key}
use Rattle.bd_base.specs.declared.limits.TheConstants.{PART_BLOCKS}
use Rattle.bd_base.specs.declared.volume.Volume.{Volume}
use Rattle.bd_entry.specs.declared.entry.Entry.TheVariants.{Released}
use Rattle.bd_entry.specs.Store.{Descriptor, Store, blocks_in, descriptor_at, has_part, limit_in}
use Rattle.bd_lines.specs.declared.lines.Line.{Line}
use Rattle.bd_lines.specs.Lines.{line_at}
use Rattle.bd_tables.specs.declared.request.Completion.{Completion}
use Rattle.bd_tables.specs.declared.request.Request.{Request}
use Rattle.bd_tables.specs.declared.state.Walk.TheVariants as walks
use Rattle.bd_tables.specs.State.{TableState, cell_of, walk_at}
use Rattle.bd_turns.specs.declared.turn.Row.TheVariants as rows
use Rattle.bd_turns.specs.declared.turn.Turn.TheVariants.{Did}
use Rattle.bd_turns.specs.Reached.{IsReached}
use Rattle.bd_turns.specs.State.{State}
use Rattle.bd_turns.specs.Turns.{after_turn, answer_of, visible_of}

-- ---- held translations

-- a translation is held: that under this key the block of this index is that of the cell, up to the cell's limit. An
-- engine holds the one that its walk came to until it leaves the key, and a line of the cache the one that filled it.
pub data IsHeld (tables : TableState) : Key → ℕ → Cell → Type 0 where
  by_engine : (process : ℕ) (request : Request) (completion : Completion) →
      walk_at tables.walks process ≡ walks.Translated request completion →
      IsHeld tables request.key request.index (cell_of completion)
  by_line : (c : ℕ) (line : Line) → line_at tables.lines c ≡ Some line → IsHeld tables line.key line.index line.cell

-- a translation is current: its key is that of an open descriptor with a right attached on that part, its block the one
-- that the descriptor's file has at that index of the part, and its limit no larger than that of the block
pub record IsCurrent (s : Store) (key : Key) (index : ℕ) (cell : Cell) : Type 0 where
  pub descriptor : Descriptor
  pub is_open : descriptor_at s key.process key.fd ≡ Some descriptor
  pub attached : has_part key.part descriptor.attached ≡ true
  pub of_part : index / PART_BLOCKS ≡ key.part
  pub of_index : slice_get (blocks_in s descriptor.file) index ≡ Some cell.block
  pub inside : cell.limit ≤ limit_in s descriptor.file index

-- at every moment each translation that is held is current
abbrev pub HeldTranslationsAreCurrent : Type 0
HeldTranslationsAreCurrent =
    (v : Volume) (m : State) (key : Key) (index : ℕ) (cell : Cell) → IsReached v m → IsHeld m.tables key index cell →
    IsCurrent m.store key index cell

-- ---- released blocks

-- no translation that is held names the block
abbrev pub IsUnnamed : TableState → ℕ → Type 0
IsUnnamed tables block = (key : Key) (index : ℕ) (cell : Cell) → IsHeld tables key index cell → cell.block ≢ block

-- the turn of an actor releases a block that the file has, and that no translation names before the turn or after it
pub record ReleasesUnnamed (m : State) (actor : ℕ) : Type 0 where
  pub at : At
  pub file : ℕ
  pub index : ℕ
  pub block : ℕ
  pub added : visible_of m actor ≡ Released at file index block ∷ []
  pub of_file : slice_get (blocks_in m.store file) index ≡ Some block
  pub before : IsUnnamed m.tables block
  pub after : IsUnnamed (after_turn m actor).tables block

-- so does each turn that answers that it released a block
abbrev pub ReleasedBlocksAreUnnamed : Type 0
ReleasedBlocksAreUnnamed =
    (v : Volume) (m : State) (actor : ℕ) → IsReached v m → answer_of m actor ≡ Did rows.Release →
    ReleasesUnnamed m actor
