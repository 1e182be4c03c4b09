use Rattle.std.proofs.Common.{ap, arith, sym, ◌∙◌, ◌++◌, ◌∷◌, []}
use Rattle.std.proofs.lemmas.List.FromFn.{map-range_with_len_more}
use Rattle.bd_image.specs.Volumes.{inode_in_image}
use Rattle.bd_image.proofs.reader.files.read_files.Goals as goal

pub loop-j-preserved : goal.loop-j-preserved
loop-j-preserved c =
    let b = c.args.bytes.now in
    let j = c.loop-j.j in
    c.in_ok-push.ensures.ok ∙ ap (λ file. c.loop-j.files ++ file ∷ []) c.in_ok-read_file.ensures
    ∙ ap (λ files. files ++ inode_in_image b j ∷ []) c.loop-j.invariant ∙ sym (map-range_with_len_more (inode_in_image b) 0 j j (omega arith))
