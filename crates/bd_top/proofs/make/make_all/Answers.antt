use Rattle.std.proofs.Common.{◌≡◌, ℕ, List, refl, subst, inl, inr, ◌∙◌}
use Rattle.bd_gen.specs.Script.{made_script}
use Rattle.bd_gen.specs.Volume.{made_volume}
use Rattle.bd_image.specs.Volumes.{image_of}
use Rattle.bd_outside.specs.Around.{Writing, writing}
use Rattle.bd_script.specs.Texts.{script_text}
use Rattle.bd_top.specs.declared.status.Status.TheVariants.{OutOfMemory}
use Rattle.bd_top.specs.Ends.{MakeEnd, TextAndImageWritten}
use Rattle.bd_top.proofs.Ends.{make_decided}
use Rattle.bd_top.proofs.make.make_all.Goals as goal

pub returns-in-Ok : goal.returns-in-Ok
returns-in-Ok g c =
    let out : Writing = writing g.O.Sink c.args.out.now c.write_both.new.out in
    let disk : Writing = writing g.D.Sink c.args.disk.now c.write_both.new.disk in
    let text : c.as_slice.result.now ≡ script_text (made_script c.args.n) = c.as_slice.ensures ∙ c.in-Ok.ensures.text in
    let image : c.as_slice-in-Ok.result.now ≡ image_of made_volume = c.as_slice-in-Ok.ensures ∙ c.in-Ok.ensures.image in
    let written : TextAndImageWritten out disk (script_text (made_script c.args.n)) (image_of made_volume) c.write_both.result =
    subst (λ (i : List ℕ). TextAndImageWritten out disk (script_text (made_script c.args.n)) i c.write_both.result) image
    (subst (λ (t : List ℕ). TextAndImageWritten out disk t c.as_slice-in-Ok.result.now c.write_both.result) text c.write_both.ensures) in
    let end : MakeEnd c.args.n out disk c.write_both.result = inr written in
    record { end = end; decided = make_decided c.args.n out disk c.write_both.result end }

pub returns-in-Err : goal.returns-in-Err
returns-in-Err g c =
    let out : Writing = writing g.O.Sink c.args.out.now c.args.out.now in
    let disk : Writing = writing g.D.Sink c.args.disk.now c.args.disk.now in
    let end : MakeEnd c.args.n out disk OutOfMemory = inl (refl, (refl, refl), (refl, refl)) in
    record { end = end; decided = make_decided c.args.n out disk OutOfMemory end }
