use Rattle.bd_image.proofs.Whole.{Accepted-image_of, volume_of-image_of}
use Rattle.bd_image.proofs.laws.one_volume.Goals as goal

pub returns : goal.returns
returns c = record { accepted = Accepted-image_of; says = volume_of-image_of }
