use Rattle.bd_blocks.proofs.Spellings.{no-first}
use Rattle.bd_blocks.specs.Texts.{optional_text}
use Rattle.bd_base.specs.declared.limits.TheConstants.{BLOCKS}
use Rattle.bd_entry.specs.Ranges.{IsOptional}
use Rattle.bd_entry.proofs.Fields.{below-field}
use Rattle.bd_entry.proofs.read.fields.front_block.Goals as goal

pub returns-in_err-read_block-clause-none : goal.returns-in_err-read_block-clause-none
returns-in_err-read_block-clause-none c =
    rw c.from_residual-in_err-read_block.ensures
    (no-first optional_text (IsOptional BLOCKS) (below-field BLOCKS) c.args.text.now c.in_ok-field.field.now c.in_ok-field.rest.now
    c.in_ok-field.ensures.split c.in_ok-field.ensures.first c.in_err-read_block.ensures)
