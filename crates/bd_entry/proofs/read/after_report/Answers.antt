use Rattle.std.proofs.Common.{◌≡◌, ◌≢◌, ◌++◌, ◌∷◌, drop, refl, sym, ◌∙◌, inl, inr, rules}
use Rattle.bd_blocks.specs.declared.text.TheConstants.{LF}
use Rattle.bd_entry.specs.Texts.{header}
use Rattle.bd_entry.proofs.Headers.{header_found, last_header_found, next_begins, next_line, next_rest, none_before_next, none_to_end}
use Rattle.bd_entry.proofs.read.after_report.Goals as goal

pub returns-then-eq : goal.returns-then-eq
returns-then-eq c =
    let is : c.in-Some.line.now ≡ header = search rules in
    record {
      found = inr (header_found c.args.bytes.now c.in-Some.line.now c.in-Some.next.now c.loop-line.place (sym c.loop-line.invariant.rest
          ∙ c.in-Some.ensures.split) is
          c.loop-line.invariant.begins);
      first = c.loop-line.invariant.first;
    }

pub loop-line-preserved : goal.loop-line-preserved
loop-line-preserved c =
    let other : c.in-Some.line.now ≢ header = search rules in
    let splits : drop c.loop-line.place c.args.bytes.now ≡ c.in-Some.line.now ++ LF ∷ c.in-Some.next.now = sym c.loop-line.invariant.rest
    ∙ c.in-Some.ensures.split in
    record {
      within = next_line c.args.bytes.now c.in-Some.line.now c.in-Some.next.now c.loop-line.place c.loop-line.invariant.within splits;
      rest = next_rest c.args.bytes.now c.in-Some.line.now c.in-Some.next.now c.loop-line.place splits;
      begins = next_begins c.args.bytes.now c.in-Some.line.now c.in-Some.next.now c.loop-line.place splits;
      first = none_before_next c.args.bytes.now c.in-Some.line.now c.in-Some.next.now c.loop-line.place splits c.in-Some.ensures.first other
          c.loop-line.invariant.first;
    }

pub returns-then-eq-2 : goal.returns-then-eq-2
returns-then-eq-2 c =
    let is : c.loop-line.rest.now ≡ header = search rules in
    record {
      found = inr (last_header_found c.args.bytes.now c.loop-line.place (sym c.loop-line.invariant.rest ∙ is) c.loop-line.invariant.begins);
      first = c.loop-line.invariant.first;
    }

pub returns-else-eq-2 : goal.returns-else-eq-2
returns-else-eq-2 c =
    let other : c.loop-line.rest.now ≢ header = search rules in
    record {
      found = inl refl;
      first = none_to_end c.args.bytes.now c.loop-line.rest.now c.loop-line.place c.loop-line.invariant.within
          (sym c.loop-line.invariant.rest) c.in_default.ensures.none other
          c.loop-line.invariant.first;
    }
