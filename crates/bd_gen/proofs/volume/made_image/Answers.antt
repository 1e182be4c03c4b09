use Rattle.std.proofs.Common.{◌≡◌, ap, sym, ◌∙◌, subst, List, ℕ}
use Rattle.std.proofs.lemmas.Result.{IfOk-weaker}
use Rattle.bd_base.specs.declared.volume.Volume.{Volume}
use Rattle.bd_image.specs.Volumes.{AcceptedVolume, image_of, volume_of}
use Rattle.bd_gen.specs.Volume.{made_volume}
use Rattle.bd_gen.proofs.SoundVolume.{IsSoundVolume-made_volume}
use Rattle.bd_gen.proofs.volume.made_image.Goals as goal

pub render-requires : goal.render-requires
render-requires c =
    subst AcceptedVolume (sym c.in_ok-volume.ensures) (c.sound_volumes.ensures.accepted made_volume IsSoundVolume-made_volume)
