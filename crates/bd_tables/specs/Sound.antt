-- What always holds of the tables: engines and the cache hold nothing that the rights and the cells do not say.
use Rattle.std.specs.Prelude.{◌≡◌, ℕ, ◌<◌, ◌≤◌, true, false, Option, None, Some, length}
use Rattle.std.proofs.Common.{get_or}
use Rattle.std.specs.FinMap as fin
use Rattle.bd_base.specs.declared.key.Cell.{Cell}
use Rattle.bd_base.specs.declared.key.Key.{Key}
use Rattle.bd_base.specs.declared.limits.TheConstants.{DESCRIPTORS, PARTS, PROCESSES}
use Rattle.bd_lines.specs.declared.lines.Line.{Line}
use Rattle.bd_lines.specs.declared.lines.TheConstants.{LINES}
use Rattle.bd_lines.specs.Lines.{line_at}
use Rattle.bd_tables.specs.declared.request.Completion.{Completion}
use Rattle.bd_tables.specs.declared.request.Request.{Request}
use Rattle.bd_tables.specs.declared.state.Right.{Right}
use Rattle.bd_tables.specs.declared.state.RightState.{RightState}
use Rattle.bd_tables.specs.declared.state.RightState.TheVariants.{On, Cleared, Drained}
use Rattle.bd_tables.specs.declared.state.Walk.{Walk}
use Rattle.bd_tables.specs.declared.state.Walk.TheVariants.{Idle, Entered, Refused, Translated}
use Rattle.bd_tables.specs.State.{TableState, cell_of, lookup, walk_at}

-- the request that was granted and is not given up
abbrev pub granted_of : Walk → Option Request
granted_of Idle = None
granted_of (Entered request) = Some request
granted_of (Refused request found) = None
granted_of (Translated request completion) = Some request

-- engines may be granted in a key of this state: it is not drained
abbrev pub IsOpen : RightState → Type 0
IsOpen On = Unit {0}
IsOpen Cleared = Unit {0}
IsOpen (Drained swept) = ⊥

-- a line of this number may name a key of this state: it was not swept since the drain
abbrev pub IsUnswept : ℕ → RightState → Type 0
IsUnswept c On = Unit {0}
IsUnswept c Cleared = Unit {0}
IsUnswept c (Drained swept) = get_or swept c false ≡ false

-- the right is not drained, and allows what was granted
pub record Allows (request : Request) (right : Right) : Type 0 where
  pub undrained : IsOpen right.state
  pub writable : request.write ≡ true → right.write ≡ true

-- what P says of the right that is there; there is one
abbrev pub OnRight : (Right → Type 0) → Option Right → Type 0
OnRight P None = ⊥
OnRight P (Some right) = P right

-- the cell is that of the entry, and reaches no further; there is an entry
pub record IsWithin (cell entry : Cell) : Type 0 where
  pub block : cell.block ≡ entry.block
  pub limit : cell.limit ≤ entry.limit

abbrev pub IsOfEntry : Cell → Option Cell → Type 0
IsOfEntry cell None = ⊥
IsOfEntry cell (Some entry) = IsWithin cell entry

-- the translation is that of the entry that was asked for, and reaches as far as was asked
pub record IsHeldFor (tables : TableState) (request : Request) (completion : Completion) : Type 0 where
  pub entry : IsOfEntry (cell_of completion) (lookup tables request.key request.index)
  pub reaches : request.hi ≤ completion.limit
  pub read : completion.read ≡ true
  pub write : completion.write ≡ request.write

-- the line is that of an entry under an attached right that does not count it among the lines swept
pub record IsCachedIn (tables : TableState) (c : ℕ) (line : Line) : Type 0 where
  pub right : OnRight (λ right. IsUnswept c right.state) (fin.get tables.rights line.key)
  pub entry : IsOfEntry line.cell (lookup tables line.key line.index)

-- the key is one of a process, a descriptor and a part that there may be
pub record IsKey (key : Key) : Type 0 where
  pub process : key.process < PROCESSES
  pub fd : key.fd < DESCRIPTORS
  pub part : key.part < PARTS

pub record IsSound (tables : TableState) : Type 0 where
  pub sixteen : length tables.lines ≡ LINES
  pub keys : (key : Key) (right : Right) → fin.get tables.rights key ≡ Some right → IsKey key
  pub granted : (process : ℕ) (request : Request) → granted_of (walk_at tables.walks process) ≡ Some request →
      OnRight (Allows request) (fin.get tables.rights request.key)
  pub held : (process : ℕ) (request : Request) (completion : Completion) →
      walk_at tables.walks process ≡ Translated request completion → IsHeldFor tables request completion
  pub cached : (c : ℕ) (line : Line) → line_at tables.lines c ≡ Some line → IsCachedIn tables c line
