use Rattle.bd_image.proofs.Accepted.{AcceptedVolume-sound}
use Rattle.bd_image.proofs.Sound.{IsSoundVolume-accepted}
use Rattle.bd_image.proofs.laws.sound_volumes.Goals as goal

pub returns : goal.returns
returns c = record { sound = IsSoundVolume-accepted; accepted = AcceptedVolume-sound }
