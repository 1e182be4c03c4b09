use Rattle.std.proofs.Common.{◌≡◌, ℕ, ◌<◌, Option, None, Some, sym, ap, ◌∙◌, subst, arith}
use Rattle.bd_base.specs.Inodes.{existing_file, grown_file, growth_block, growth_refusal}
use Rattle.bd_fs.specs.Files.{with_file}
use Rattle.bd_kernel.specs.Disks.{DiskState, files_on}
use Rattle.bd_kernel.proofs.DiskBytes.{grown-disk, taken_within}
use Rattle.bd_kernel.proofs.disk.Disk.extend.Goals as goal

pub zero-requires : goal.zero-requires
zero-requires g c =
    let fs = c.self.inside.fs in
    let allowed : growth_refusal fs.total fs.files (existing_file fs.files c.args.file) c.args.to ≡ None =
    subst (λ (d : DiskState). growth_refusal d.total d.files (existing_file d.files c.args.file) c.args.to ≡ None) (sym c.self.view_is)
    c.requires.allowed in
    let planned : growth_block fs.total fs.files (existing_file fs.files c.args.file) ≡ Some c.in-Ok-Some.block =
    sym c.in-Ok-Some.ensures.block ∙ c.in-Ok-Some.field-0-is in
    let below : c.in-Ok-Some.block < fs.total =
    taken_within fs.total fs.files (existing_file fs.files c.args.file) c.args.to c.in-Ok-Some.block allowed planned in
    omega (arith, below, c.self.invariant)

pub returns-in-Ok-Some-clause-grown : goal.returns-in-Ok-Some-clause-grown
returns-in-Ok-Some-clause-grown g c =
    let d : DiskState = record {
      total = c.self.inside.fs.total;
      files = c.self.inside.fs.files;
      bytes = g.M.Medium.contents c.self.inside.medium;
      rows = c.self.inside.descriptors.rows;
      held = c.self.inside.descriptors.held;
    } in
    let planned : growth_block d.total d.files (existing_file d.files c.args.file) ≡ Some c.in-Ok-Some.block =
    sym c.in-Ok-Some.ensures.block ∙ c.in-Ok-Some.field-0-is in
    let grown : c.grow_one.new.self
    ≡ with_file (files_on d) c.args.file (Some (grown_file (existing_file d.files c.args.file) (Some c.in-Ok-Some.block) c.args.to)) =
    c.in-Ok-Some.ensures.grown
    ∙ ap (λ (block : Option ℕ). with_file (files_on d) c.args.file (Some (grown_file (existing_file d.files c.args.file) block c.args.to)))
    c.in-Ok-Some.field-0-is in
    grown-disk d c.grow_one.new.self c.args.file c.args.to c.in-Ok-Some.block (g.M.Medium.contents c.zero.new.self) c.args.self.now c.self.view_is
    c.requires.exists grown c.zero.ensures.bytes planned
