use Rattle.std.proofs.Common.{length, ap, rules, sym, ◌∙◌, subst, arith}
use Rattle.bd_base.specs.Bytes.{AreBytes}
use Rattle.bd_image.specs.Rules.{Accepted, HasRecords, Length}
use Rattle.bd_image.specs.Volumes.{AcceptedVolume, volume_of}
use Rattle.bd_image.proofs.RuleOrder.{has_records}
use Rattle.bd_image.proofs.reader.parse.Goals as goal

pub block_count-total-requires : goal.block_count-total-requires
block_count-total-requires c =
    let same = ap length (c.as_slice.ensures ∙ sym c.as_slice-2.ensures) in
    omega (arith, (c.in_ok-inodes.ensures.accepted Length).least, same)

pub without_metadata-bytes-requires : goal.without_metadata-bytes-requires
without_metadata-bytes-requires c =
    subst HasRecords c.as_slice.ensures (has_records c.as_slice.result.now 20 (omega arith) (λ q _. c.in_ok-inodes.ensures.accepted q))

pub returns-clause-accepted_volume : goal.returns-clause-accepted_volume
unfolding AcceptedVolume volume_of
returns-clause-accepted_volume c = (
  c.args.bytes,
  subst AreBytes c.as_slice.ensures c.in_ok-inodes.ensures.bytes,
  subst Accepted c.as_slice.ensures c.in_ok-inodes.ensures.accepted,
  search rules,
)
