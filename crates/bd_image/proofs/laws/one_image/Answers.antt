use Rattle.bd_image.proofs.Whole.{image_of-volume_of}
use Rattle.bd_image.proofs.laws.one_image.Goals as goal

pub returns : goal.returns
returns c = image_of-volume_of
