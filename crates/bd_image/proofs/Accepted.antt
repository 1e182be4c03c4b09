-- A sound volume is one that an accepted image says: its own image.
use Rattle.std.proofs.Common.{sym}
use Rattle.bd_base.specs.declared.volume.Volume.{Volume}
use Rattle.bd_base.specs.Volumes.{IsSoundVolume}
use Rattle.bd_image.specs.Rules.{Accepted, Bitmap, BlockCount, ExtentCount, ExtentJoins, ExtentRange}
use Rattle.bd_image.specs.Rules.{ExtentShares, FreeRecord, HeaderRest, InodeCount, Length, Magic, NameForm}
use Rattle.bd_image.specs.Rules.{NameFresh, Perms, RecordRest, Size, TailZero, UsedMark, Version}
use Rattle.bd_image.specs.Volumes.{AcceptedVolume, image_of}
use Rattle.bd_image.proofs.WrittenBitmap.{written-obeys-Bitmap}
use Rattle.bd_image.proofs.WrittenBytes.{AreBytes-image}
use Rattle.bd_image.proofs.WrittenExtents.{written-obeys-ExtentJoins, written-obeys-ExtentRange, written-obeys-Size}
use Rattle.bd_image.proofs.WrittenRules.{written-obeys-BlockCount, written-obeys-ExtentCount}
use Rattle.bd_image.proofs.WrittenRules.{written-obeys-FreeRecord, written-obeys-HeaderRest}
use Rattle.bd_image.proofs.WrittenRules.{written-obeys-InodeCount, written-obeys-Length, written-obeys-Magic}
use Rattle.bd_image.proofs.WrittenRules.{written-obeys-NameForm, written-obeys-NameFresh, written-obeys-Perms}
use Rattle.bd_image.proofs.WrittenRules.{written-obeys-RecordRest, written-obeys-UsedMark}
use Rattle.bd_image.proofs.WrittenRules.{written-obeys-Version}
use Rattle.bd_image.proofs.WrittenShares.{written-obeys-ExtentShares}
use Rattle.bd_image.proofs.WrittenTails.{written-obeys-TailZero}
use Rattle.bd_image.proofs.WrittenVolume.{volume-written}

-- the image of a sound volume breaks no rule
Accepted-sound : (v : Volume) → IsSoundVolume v → Accepted (image_of v)
Accepted-sound v h Length = written-obeys-Length v h
Accepted-sound v h Magic = written-obeys-Magic v h
Accepted-sound v h Version = written-obeys-Version v h
Accepted-sound v h BlockCount = written-obeys-BlockCount v h
Accepted-sound v h InodeCount = written-obeys-InodeCount v h
Accepted-sound v h HeaderRest = written-obeys-HeaderRest v h
Accepted-sound v h UsedMark = written-obeys-UsedMark v h
Accepted-sound v h FreeRecord = written-obeys-FreeRecord v h
Accepted-sound v h Perms = written-obeys-Perms v h
Accepted-sound v h ExtentCount = written-obeys-ExtentCount v h
Accepted-sound v h NameForm = written-obeys-NameForm v h
Accepted-sound v h NameFresh = written-obeys-NameFresh v h
Accepted-sound v h RecordRest = written-obeys-RecordRest v h
Accepted-sound v h ExtentRange = written-obeys-ExtentRange v h
Accepted-sound v h ExtentJoins = written-obeys-ExtentJoins v h
Accepted-sound v h ExtentShares = written-obeys-ExtentShares v h
Accepted-sound v h Size = written-obeys-Size v h
Accepted-sound v h TailZero = written-obeys-TailZero v h
Accepted-sound v h Bitmap = written-obeys-Bitmap v h

-- a sound volume is what its image says, which is accepted
pub AcceptedVolume-sound : (v : Volume) → IsSoundVolume v → AcceptedVolume v
unfolding AcceptedVolume
AcceptedVolume-sound v h = (image_of v, AreBytes-image v h, Accepted-sound v h, sym (volume-written v h))
