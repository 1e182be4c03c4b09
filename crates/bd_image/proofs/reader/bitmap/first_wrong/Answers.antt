use Rattle.std.proofs.Common.{◌≡◌, ◌↔◌, IsTrue, false, get_or, below_more, sym, ◌∙◌, arith}
use Rattle.bd_image.specs.Layout.{is_marked}
use Rattle.bd_image.specs.Rules.{IsInUse}
use Rattle.bd_image.proofs.Marks.{bit_right, bits_differ, bits_same, least_bit}
use Rattle.bd_image.proofs.reader.bitmap.first_wrong.Goals as goal

pub loop-x-preserved : goal.loop-x-preserved
loop-x-preserved c =
    let b = c.args.bytes.now in
    let x = c.loop-x.x in
    let same : is_marked b x ≡ get_or c.args.taken.now x false =
    sym c.is_marked.ensures ∙ bits_same c.is_marked.result (get_or c.args.taken.now x false)
    c.if-is_marked-taken.false in
    below_more (λ k. IsTrue (is_marked b k) ↔ IsInUse b k) x c.loop-x.invariant (bit_right b c.args.taken.now x c.requires.taken (omega arith) same)

pub returns-then-is_marked-taken : goal.returns-then-is_marked-taken
returns-then-is_marked-taken c =
    let b = c.args.bytes.now in
    let x = c.loop-x.x in
    least_bit b c.args.taken.now x c.requires.taken (omega arith)
    (λ e. bits_differ c.is_marked.result (get_or c.args.taken.now x false) c.if-is_marked-taken.true (c.is_marked.ensures ∙ e))
    c.loop-x.invariant
