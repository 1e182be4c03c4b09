use Rattle.bd_image.proofs.LongImages.{too_long}
use Rattle.bd_image.proofs.refusals.long_images_are_refused.Goals as goal

pub returns : goal.returns
returns c = too_long
