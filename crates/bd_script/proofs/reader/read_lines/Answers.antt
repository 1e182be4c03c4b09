use Rattle.std.proofs.Common.{[], ◌∷◌, ◌++◌, length, ap, length-append, arith}
use Rattle.bd_blocks.specs.declared.text.TheConstants.{LF}
use Rattle.bd_script.proofs.Refusing.{next-refused, taken-text}
use Rattle.bd_script.specs.Texts.{header, script_lines}
use Rattle.bd_script.proofs.reader.read_lines.Goals as goal

pub returns-in-Err-clause-refused : goal.returns-in-Err-clause-refused
returns-in-Err-clause-refused c =
    let was = c.loop-rest.invariant in
    next-refused (header ++ LF ∷ c.args.text.now) c.loop-rest.rest.now c.in-Some.line.now c.in-Some.next.now c.loop-rest.draft c.loop-rest.number was.limits
    c.requires was.split was.number_is c.in-Some.ensures.split c.in-Some.ensures.first
    c.in-Err.fault c.in-Err.ensures.refused c.refusal.result c.refusal.ensures

pub loop-rest-preserved : goal.loop-rest-preserved
loop-rest-preserved c =
    let was = c.loop-rest.invariant in
    let taken = c.in-Ok.ensures.ok in
    record {
      limits = taken.more.limits;
      split = taken-text (header ++ LF ∷ c.args.text.now) c.loop-rest.rest.now c.in-Some.line.now c.in-Some.next.now c.loop-rest.draft c.in-Ok.draft was.split
          c.in-Some.ensures.split taken;
      number_is = omega (arith, was.number_is, ap length taken.more.lines, length-append (script_lines c.loop-rest.draft) (taken.form ∷ []));
      bound = omega (arith, was.bound, ap length c.in-Some.ensures.split, length-append c.in-Some.line.now (LF ∷ c.in-Some.next.now));
    }
