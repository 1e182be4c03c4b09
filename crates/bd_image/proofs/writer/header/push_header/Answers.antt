-- The five appends make up the header.
use Rattle.std.proofs.Common.{replicate}
use Rattle.std.proofs.lemmas.Result.{on_ok_weaker}
use Rattle.std.specs.Prelude.{codes}
use Rattle.byteorder.specs.Endian.{little_bytes}
use Rattle.bd_image.proofs.Parts.{appends-five}
use Rattle.bd_image.specs.Volumes.{header_bytes}
use Rattle.bd_image.proofs.writer.header.push_header.Goals as goal

pub returns : goal.returns
unfolding header_bytes
returns c =
    on_ok_weaker c.push_zeros.result
    (appends-five c.args.out.now.items c.extend_from_slice.new.self.items c.push_u32.new.out.items c.push_u32-2.new.out.items
    c.push_u32-3.new.out.items c.push_zeros.new.out.items (codes "BYPDFS01") (little_bytes 4 1) (little_bytes 4 c.args.total)
    (little_bytes 4 c.args.inodes) (replicate 4076 0) c.in_ok-extend_from_slice.ensures.items c.in_ok-push_u32.ensures
    c.in_ok-push_u32-2.ensures c.in_ok-push_u32-3.ensures)
    c.push_zeros.ensures
