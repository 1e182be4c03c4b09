use Rattle.std.proofs.Common.{◌≡◌, ap, ◌∙◌}
use Rattle.bd_pieces.specs.Gathered.{gathered_bytes}
use Rattle.bd_pieces.proofs.FirstParts.{first_bytes}
use Rattle.bd_pieces.proofs.gathering.gather.Goals as goal

pub returns-clause-first_parts : goal.returns-clause-first_parts
returns-clause-first_parts c =
    let all : c.from_vec.result ≡ gathered_bytes c.args.parts.now =
    c.from_vec.ensures ∙ c.in_ok-bytes.ensures ∙ ap gathered_bytes c.as_slice.ensures in
    rw all (first_bytes c.args.parts.now)
