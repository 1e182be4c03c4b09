-- The block of a direct access is one of the disk.
use Rattle.std.proofs.Common.{◌≡◌, ℕ, ◌<◌, ◌*◌, List, length, Option, None, Some, refl, sym, ap, ◌∙◌, subst, arith}
use Rattle.std.specs.Prelude.{slice_get, IsTrue}
use Rattle.std.proofs.lemmas.Option.{none-some}
use Rattle.bd_base.specs.declared.journal.At.{At}
use Rattle.bd_base.specs.declared.limits.TheConstants.{BLOCK_SIZE}
use Rattle.bd_base.specs.declared.script.Call.{Call}
use Rattle.bd_base.specs.declared.volume.Inode.{Inode}
use Rattle.bd_base.specs.Allocation.{is_data_block}
use Rattle.bd_base.specs.Inodes.{blocks_of_slot}
use Rattle.bd_entry.specs.NextEntries.{IsLegalAt}
use Rattle.bd_entry.specs.Rules.{RightBlock}
use Rattle.bd_entry.specs.Store.{Store, Valid, blocks_in, file_in}
use Rattle.bd_entry.proofs.CallPieces.{All-slice_get}
use Rattle.bd_kernel.specs.Disks.{DiskState}
use Rattle.bd_kernel.proofs.DiskBytes.{within_total}
use Rattle.bd_machine.specs.Engines.{IsMoveOf, MoveAt}
use Rattle.bd_medium.specs.Contents.{HasBlock}
use Rattle.bd_queue_pair.specs.declared.command.Command.{Command}
use Rattle.bd_turns.specs.Engines.{move_entry}
use Rattle.bd_turns.proofs.LegalMoves.{moves_by}

-- a block of a file is one of the store
file_block : (s : Store) (file index block : ℕ) → Valid s → slice_get (blocks_in s file) index ≡ Some block → HasBlock s.bytes block
file_block s file index block valid at_index = by (file_in s file) refl
  where
    by : (slot : Option Inode) → file_in s file ≡ slot → HasBlock s.bytes block
    by None none = absurd (none-some block (sym (ap (λ (o : Option Inode). slice_get (blocks_of_slot o) index) none) ∙ at_index))
    by (Some f) there =
        let found : slice_get f.blocks index ≡ Some block =
        sym (ap (λ (o : Option Inode). slice_get (blocks_of_slot o) index) there) ∙ at_index in
        let below : block < s.total =
        within_total s.total (length s.files) block
        (All-slice_get (λ (b : ℕ). IsTrue (is_data_block s.total (length s.files) b)) f.blocks index block
        (valid.volume.files.valid.each file f there).in_data_area found) in
        let all : length s.bytes ≡ BLOCK_SIZE * s.total = valid.volume.all_bytes in
        omega (arith, below, all)

-- so the disk has the block of such an access
pub block_there : (disk : DiskState) (call : Call) (at : At) (command : Command) (block : ℕ) (g : MoveAt) → IsMoveOf disk call at command block g →
    HasBlock disk.bytes block
block_there disk call at command block g is =
    let by = moves_by g.store g.place command.piece block g.entry is.moved in
    let legal : IsLegalAt g.store g.place (move_entry g.store g.place command.piece by.fd by.piece block by.d) =
    subst (IsLegalAt g.store g.place) (sym by.entry) is.legal in
    subst (λ (bytes : List ℕ). HasBlock bytes block) is.disk_is.bytes
    (file_block g.store by.d.file by.piece.index block is.valid (legal.keeps RightBlock))
