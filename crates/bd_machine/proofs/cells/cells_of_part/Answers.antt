use Rattle.std.proofs.Common.{arith, ◌≡◌, List, Option, None, Some, sym, ap, ◌∙◌}
use Rattle.std.specs.Option.{option_copied}
use Rattle.bd_base.specs.declared.volume.Inode.{Inode}
use Rattle.bd_base.specs.Inodes.{inode_at}
use Rattle.bd_fs.specs.Files.{Files}
use Rattle.bd_kernel.specs.Disks.{store_on}
use Rattle.bd_machine.proofs.CellsOfParts.{cells_of_all, cells_from-step, no_cells}
use Rattle.bd_machine.proofs.cells.cells_of_part.Goals.{in-Some+else-loop-index-test, in_default}
use Rattle.bd_machine.proofs.cells.cells_of_part.Goals as goal

pub loop-index-preserved : goal.loop-index-preserved
loop-index-preserved g c =
    let there : inode_at c.args.disk.now.files c.args.file ≡ Some c.in-Some.inode.now =
    ap (λ (fs : Files). inode_at fs.files c.args.file) (sym c.fs.ensures) ∙ sym c.inode.ensures.found ∙ ap option_copied c.in-Some.is in
    cells_from-step (store_on c.args.disk.now) c.args.file c.min-first.result c.loop-index.index c.in-Some.inode.now
    c.as_slice-blocks.result.now c.index-blocks-index.result c.loop-index.cells.items c.push.new.self.items c.cell_of.result there
    c.as_slice-blocks.ensures c.loop-index.auto.index (omega arith) c.index-blocks-index.is c.cell_of.ensures c.in_ok-push.ensures.items
    c.loop-index.invariant

pub returns : goal.returns
returns g c = λ s valid is.
    elim c.match-inode.branch [
      | in-Some+else-loop-index-test w ↦
          let there : inode_at c.args.disk.now.files c.args.file ≡ Some w.in-Some.inode.now =
          ap (λ (fs : Files). inode_at fs.files c.args.file) (sym c.fs.ensures) ∙ sym c.inode.ensures.found ∙ ap option_copied w.in-Some.is in
          ap (λ x. x.items) w.cells-is
          ∙ cells_of_all s (store_on c.args.disk.now) c.args.file c.args.part w.get.result w.min-first.result w.min-end.result w.loop-index.index
          w.in-Some.inode.now w.as_slice-blocks.result.now w.loop-index.cells.items there is.files w.as_slice-blocks.ensures w.get.ensures.value
          w.min-first.ensures w.min-end.ensures w.loop-index-test.false w.loop-index.auto.index-end w.loop-index.invariant
      | in_default w ↦
          let gone : inode_at c.args.disk.now.files c.args.file ≡ None =
          ap (λ (fs : Files). inode_at fs.files c.args.file) (sym c.fs.ensures) ∙ sym c.inode.ensures.found ∙ ap option_copied w.in_default.is in
          ap (λ x. x.items) w.cells-is ∙ c.new-cells.ensures.items
          ∙ sym (no_cells s c.args.file c.args.part (ap (λ (files : List (Option Inode)). inode_at files c.args.file) is.files ∙ gone))
    ]
