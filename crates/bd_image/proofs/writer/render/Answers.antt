-- An accepted volume is within the limits, and its image is the one that says it.
use Rattle.std.proofs.Common.{◌≡◌, ℕ, List, ap, sym, ◌∙◌, subst}
use Rattle.std.proofs.lemmas.Result.{IfOk-weaker}
use Rattle.bd_base.specs.declared.volume.Volume.{Volume}
use Rattle.bd_image.specs.Rules.{Accepted}
use Rattle.bd_image.specs.Volumes.{image_of, volume_of}
use Rattle.bd_image.proofs.Limits.{AcceptedVolume-within_limits}
use Rattle.bd_image.proofs.Whole.{Accepted-image_of, image_of-volume_of, volume_of-image_of}
use Rattle.bd_image.proofs.writer.render.Goals as goal

pub image_of-requires : goal.image_of-requires
image_of-requires c = AcceptedVolume-within_limits c.args.volume.now c.requires

pub returns : goal.returns
returns c =
    let v : Volume = c.args.volume.now in
    let IsImage : List ℕ → Type 0 = λ image. image ≡ image_of v in
    record {
      image = c.image_of.ensures;
      accepted =
          IfOk-weaker c.image_of.result IsImage (λ (image : List ℕ). Accepted image)
          (λ image h. subst Accepted (sym h) (Accepted-image_of v c.requires)) c.image_of.ensures;
      says =
          IfOk-weaker c.image_of.result IsImage (λ (image : List ℕ). volume_of image ≡ v)
          (λ image h. ap volume_of h ∙ volume_of-image_of v c.requires) c.image_of.ensures;
      round_trip = λ b are accepted same.
          IfOk-weaker c.image_of.result IsImage (λ (image : List ℕ). image ≡ b)
          (λ image h. h ∙ ap image_of same ∙ image_of-volume_of b are accepted) c.image_of.ensures;
    }
