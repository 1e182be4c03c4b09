use Rattle.std.proofs.Common.{arith}
use Rattle.std.proofs.lemmas.Bool.{false≢true}
use Rattle.bd_image.proofs.NameFields.{IsNameField-from_parts, zeroes_after_name}
use Rattle.bd_image.proofs.reader.names.is_name_field.Goals as goal

pub returns : goal.returns
returns c =
    let name = c.name_length-length.ensures in (
      λ t. IsNameField-from_parts c.args.field.now c.name_length-length.result c.requires (omega arith) (omega arith) name.bytes (c.is_zero_from.ensures.0 t),
      λ h. c.is_zero_from.ensures.1
          (zeroes_after_name c.args.field.now c.name_length-length.result c.requires (omega arith) name.bytes
          (λ l. name.end (omega arith)) h).2,
    )

pub returns-then-length-eq0 : goal.returns-then-length-eq0
returns-then-length-eq0 c =
    let name = c.name_length-length.ensures in (
      λ t. absurd (false≢true t),
      λ h. let parts = zeroes_after_name c.args.field.now c.name_length-length.result c.requires (omega arith) name.bytes (λ l. name.end (omega arith)) h in
          absurd (omega (arith, parts.0, parts.1, c.then-length-eq0.either)),
    )
