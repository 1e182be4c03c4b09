use Rattle.std.proofs.Common.{refl, ◌+◌, List, Bool, sym, ◌∙◌, subst, arith}
use Rattle.std.proofs.lemmas.Bool.{false≢true}
use Rattle.bd_image.specs.Sharing.{MarksFiles}
use Rattle.bd_image.proofs.Marks.{all_marked, file_marked, free_marked, metadata_marked}
use Rattle.bd_image.proofs.reader.bitmap.mark_taken.Goals as goal
use Rattle.bd_image.proofs.reader.bitmap.mark_taken.Goals.{then-is_used, else-is_used}

pub loop-j-preserved : goal.loop-j-preserved
loop-j-preserved c =
    let b = c.args.bytes.now in
    let j = c.loop-j.j in
    let Marked : List Bool → Type 0 = λ taken. MarksFiles b taken (j + 1) in
    elim c.if-is_used.branch [
      | then-is_used w ↦
          subst Marked (sym w.taken-is)
          (file_marked b c.loop-j.taken w.take_file.new.taken j c.loop-j.invariant
          (c.is_used.ensures.0 w.if-is_used.true) w.take_file.auto.taken w.take_file.ensures)
      | else-is_used w ↦
          subst Marked (sym w.taken-is)
          (free_marked b c.loop-j.taken j c.loop-j.invariant (λ used. absurd (false≢true (sym w.if-is_used.false ∙ c.is_used.ensures.1 used))))
    ]

pub returns : goal.returns
returns c = all_marked c.args.bytes.now c.loop-j.taken c.loop-j.j c.loop-j.invariant (omega arith)

pub loop-j-init : goal.loop-j-init
loop-j-init c =
    metadata_marked c.args.bytes.now c.args.taken.now c.take_blocks.new.taken (record { start = 0; length = c.data_start.result })
    c.requires.long c.requires.clear refl c.data_start.ensures c.take_blocks.auto.taken c.take_blocks.ensures
