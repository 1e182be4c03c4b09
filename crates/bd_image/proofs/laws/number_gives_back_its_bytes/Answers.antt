use Rattle.bd_image.proofs.Numbers.{little_bytes-little_number}
use Rattle.bd_image.proofs.laws.number_gives_back_its_bytes.Goals as goal

pub returns : goal.returns
returns c = little_bytes-little_number
