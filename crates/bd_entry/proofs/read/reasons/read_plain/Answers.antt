use Rattle.std.specs.Prelude.{codes}
use Rattle.std.proofs.Common.{◌≢◌, rules}
use Rattle.bd_entry.proofs.Reasons.{no_plain}
use Rattle.bd_entry.proofs.read.reasons.read_plain.Goals as goal

pub returns-else-eq-9 : goal.returns-else-eq-9
returns-else-eq-9 c =
    let no_file : c.args.text.now ≢ codes "no-file" = search rules in
    let exists : c.args.text.now ≢ codes "exists" = search rules in
    let inodes : c.args.text.now ≢ codes "inodes" = search rules in
    let no_space : c.args.text.now ≢ codes "no-space" = search rules in
    let extents : c.args.text.now ≢ codes "extents" = search rules in
    let too_big : c.args.text.now ≢ codes "too-big" = search rules in
    let bad_fd : c.args.text.now ≢ codes "bad-fd" = search rules in
    let read_only : c.args.text.now ≢ codes "read-only" = search rules in
    let fds_full : c.args.text.now ≢ codes "fds-full" = search rules in
    no_plain c.args.text.now no_file exists inodes no_space extents too_big bad_fd read_only fds_full
