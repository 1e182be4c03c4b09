-- What an engine holds that is told a translation: the file's block at that index, under a right of its descriptor.
use Rattle.std.proofs.Common.{◌≡◌, ℕ, ◌≤◌, true, Option, None, Some, refl, sym, ap, ◌∙◌, subst, arith}
use Rattle.std.specs.Prelude.{slice_get}
use Rattle.std.specs.Option.{option_and_then, option_map}
use Rattle.std.specs.FinMap as fin
use Rattle.std.proofs.lemmas.Bool.{false≢true}
use Rattle.std.proofs.lemmas.Option.{same_Some}
use Rattle.bd_base.specs.declared.key.Cell.{Cell}
use Rattle.bd_base.specs.declared.script.Mode.{Mode}
use Rattle.bd_base.specs.declared.script.Mode.TheVariants.{R, Rw}
use Rattle.bd_base.specs.Pieces.{Piece}
use Rattle.bd_entry.specs.Calls.{Place, does_write, fd_of, piece_of_call}
use Rattle.bd_entry.specs.RulesOfRights.{part_of}
use Rattle.bd_entry.specs.Store.{Descriptor, Store, blocks_in, descriptor_at, has_part, limit_in}
use Rattle.bd_tables.specs.declared.request.Completion.{Completion}
use Rattle.bd_tables.specs.declared.request.Request.{Request}
use Rattle.bd_tables.specs.declared.state.Right.{Right}
use Rattle.bd_tables.specs.declared.state.Walk.TheVariants as walks
use Rattle.bd_tables.specs.Sound.{IsHeldFor, IsOfEntry, IsWithin, OnRight, granted_of}
use Rattle.bd_tables.specs.State.{cell_of, walk_at}
use Rattle.bd_turns.specs.Engines.{request_for, request_of_piece}
use Rattle.bd_turns.specs.Sound.{AreTablesSound, cell_of_block}
use Rattle.bd_turns.specs.State.{State}
use Rattle.bd_turns.specs.Turns.{may_write}

-- the right that is there
pub on_right : (P : Right → Type 0) (o : Option Right) → OnRight P o → (right : Right) × (o ≡ Some right) × P right
on_right P None on = absurd on
on_right P (Some right) on = (right, refl, on)

-- the cell of a block that a file has, and of one that it has not
pub cell_of_block-there : (s : Store) (file index block : ℕ) → slice_get (blocks_in s file) index ≡ Some block →
    cell_of_block s file index ≡ Some (record { block = block; limit = limit_in s file index })
cell_of_block-there s file index block is = rw is refl

pub cell_of_block-none : (s : Store) (file index : ℕ) → slice_get (blocks_in s file) index ≡ None → cell_of_block s file index ≡ None
cell_of_block-none s file index is = rw is refl

-- a cell that is that of a file's block is on that block, and reaches no further than its limit
of_file_block : (s : Store) (file index : ℕ) (cell : Cell) → IsOfEntry cell (cell_of_block s file index) →
    (slice_get (blocks_in s file) index ≡ Some cell.block) × (cell.limit ≤ limit_in s file index)
of_file_block s file index cell of = by (slice_get (blocks_in s file) index) refl
  where
    by : (o : Option ℕ) → slice_get (blocks_in s file) index ≡ o →
        (slice_get (blocks_in s file) index ≡ Some cell.block) × (cell.limit ≤ limit_in s file index)
    by None is = absurd (subst (IsOfEntry cell) (cell_of_block-none s file index is) of)
    by (Some block) is =
        let within : IsWithin cell (record { block = block; limit = limit_in s file index }) =
        subst (IsOfEntry cell) (cell_of_block-there s file index block is) of in
        (is ∙ ap Some (sym within.block), within.limit)

-- a mode that allows writing
pub writes_rw : (mode : Mode) → may_write mode ≡ true → mode ≡ Rw
writes_rw R may = absurd (false≢true may)
writes_rw Rw may = refl

-- the request for a piece by a descriptor of its call
pub request_is : (p : Place) (number fd : ℕ) (piece : Piece) (request : Request) → fd_of p ≡ Some fd →
    piece_of_call p.call number ≡ Some piece → request_of_piece p number ≡ Some request → request_for p fd piece ≡ request
request_is p number fd piece request fd_is piece_is is =
    same_Some (request_for p fd piece) request
    (sym
    (ap (option_and_then (λ fd. option_map (request_for p fd) (piece_of_call p.call number))) fd_is
    ∙ ap (option_map (request_for p fd)) piece_is)
    ∙ is)

-- what a translation for a piece says of the store
pub record IsTranslated (s : Store) (p : Place) (fd : ℕ) (piece : Piece) (completion : Completion) : Type 0 where
  pub d : Descriptor
  pub is_open : descriptor_at s p.at.process fd ≡ Some d
  pub attached : has_part (part_of piece.index) d.attached ≡ true
  pub writable : does_write p.call ≡ true → d.mode ≡ Rw
  pub block_is : slice_get (blocks_in s d.file) piece.index ≡ Some completion.block
  pub inside : piece.range.hi ≤ limit_in s d.file piece.index

pub translated : (m : State) (p : Place) (fd : ℕ) (piece : Piece) (completion : Completion) → AreTablesSound m →
    walk_at m.tables.walks p.at.process ≡ walks.Translated (request_for p fd piece) completion →
    IsTranslated m.store p fd piece completion
translated m p fd piece completion sound walk =
    let request = request_for p fd piece in
    let held : IsHeldFor m.tables request completion = sound.tables.held p.at.process request completion walk in
    let granted = on_right _ (fin.get m.tables.rights request.key) (sound.tables.granted p.at.process request (ap granted_of walk)) in
    let right : Right = granted.0 in
    let told = sound.rights.told request.key right granted.1 in
    let d : Descriptor = told.0 in
    let of : IsOfEntry (cell_of completion) (cell_of_block m.store right.file piece.index) =
    subst (IsOfEntry (cell_of completion)) (sound.lookups request.key right piece.index granted.1 refl) held.entry in
    let block = of_file_block m.store right.file piece.index (cell_of completion) of in
    let reaches : piece.range.hi ≤ completion.limit = held.reaches in
    let limit : completion.limit ≤ limit_in m.store right.file piece.index = block.1 in
    let inside : piece.range.hi ≤ limit_in m.store right.file piece.index = omega (reaches, limit, arith) in
    record {
      d = d;
      is_open = told.1;
      attached = told.2.attached;
      writable = λ writes. writes_rw d.mode (sym told.2.write ∙ granted.2.writable writes);
      block_is = subst (λ (f : ℕ). slice_get (blocks_in m.store f) piece.index ≡ Some completion.block) told.2.file block.0;
      inside = subst (λ (f : ℕ). piece.range.hi ≤ limit_in m.store f piece.index) told.2.file inside;
    }
