use Rattle.std.specs.Prelude.{codes}
use Rattle.std.proofs.Common.{◌≡◌, ℕ, [], ◌∷◌, ◌++◌, List, length, append_assoc, sym, ap, ◌∙◌, arith}
use Rattle.std.specs.List.{flat_map, range_with_len}
use Rattle.bd_blocks.specs.Texts.{before, number_text}
use Rattle.bd_blocks.specs.declared.text.TheConstants.{LF}
use Rattle.bd_entry.specs.Calls.{calls_of, entries_of}
use Rattle.bd_entry.proofs.CallOrder.{numbered}
use Rattle.bd_report.specs.Reports.{call_line}
use Rattle.bd_report.proofs.Lines.{IsLineOf, calls_are, header, is_of_ended, line_at, lines_more, reply_of_call, stands}
use Rattle.bd_report.proofs.reporting.push_process.Goals as goal

pub push_line-requires-clause-ended : goal.push_line-requires-clause-ended
push_line-requires-clause-ended c =
    let basis = c.args.basis.now in
    is_of_ended basis.script.now basis.journal.now (numbered c.args.number c.loop-call_number.call_number) c.call-item.result c.index.result.now
    (line_at basis c.args.number c.loop-call_number.call_number c.as_slice.result.now c.index-as_slice-number.result c.as_slice-call-items.result.now
    c.call-item.result c.index.result.now c.requires.is_run c.as_slice.ensures c.requires.inside c.index-as_slice-number.is
    c.as_slice-call-items.ensures c.loop-call_number-test.true c.call-item.is c.index.ensures)

pub loop-call_number-preserved : goal.loop-call_number-preserved
loop-call_number-preserved c =
    let basis = c.args.basis.now in
    let at = numbered c.args.number c.loop-call_number.call_number in
    let line : IsLineOf basis.script.now basis.journal.now at c.call-item.result c.index.result.now =
    line_at basis c.args.number c.loop-call_number.call_number c.as_slice.result.now c.index-as_slice-number.result c.as_slice-call-items.result.now
    c.call-item.result c.index.result.now c.requires.is_run c.as_slice.ensures c.requires.inside c.index-as_slice-number.is
    c.as_slice-call-items.ensures c.loop-call_number-test.true c.call-item.is c.index.ensures in
    lines_more (call_line basis.script.now basis.journal.now c.args.number) c.loop-call_number.call_number c.push.new.self.items c.loop-call_number.text.items
    c.push_line.new.text.items c.loop-call_number.invariant
    (c.in_ok-push_line.ensures (entries_of at basis.journal.now) line.tells
    ∙ ap (λ (reply : List ℕ). c.loop-call_number.text.items ++ before (number_text c.loop-call_number.call_number) (reply ++ LF ∷ []))
    (sym (reply_of_call basis.script.now basis.journal.now at c.call-item.result line.called)))

pub returns : goal.returns
returns c =
    let basis = c.args.basis.now in
    let line = call_line basis.script.now basis.journal.now c.args.number in
    let number = number_text c.args.number in
    let count : c.loop-call_number.call_number ≡ length (calls_of basis.script.now c.args.number) =
    omega (
      arith,
      c.loop-call_number-test.false,
      c.loop-call_number.auto.call_number-end,
      ap length c.as_slice-call-items.ensures,
      ap length
          (calls_are basis.script.now c.args.number c.index-as_slice-number.result
          (stands c.as_slice.result.now basis.script.now.processes c.args.number c.index-as_slice-number.result c.as_slice.ensures
          (omega (arith, c.requires.inside, ap length c.as_slice.ensures)) c.index-as_slice-number.is)),
    ) in
    let first : c.push.new.self.items ≡ c.args.text.now.items ++ before (codes "proc") (number ++ LF ∷ []) =
    rw (c.in_ok-push.ensures.items, c.in_ok-push_number.ensures, c.in_ok-push_field.ensures) (header c.args.text.now.items number) in
    c.loop-call_number.invariant
    ∙ ap (λ (t : List ℕ). t ++ flat_map line (range_with_len 0 c.loop-call_number.call_number)) first
    ∙ append_assoc c.args.text.now.items (before (codes "proc") (number ++ LF ∷ [])) (flat_map line (range_with_len 0 c.loop-call_number.call_number))
    ∙ ap (λ (n : ℕ). c.args.text.now.items ++ (before (codes "proc") (number ++ LF ∷ []) ++ flat_map line (range_with_len 0 n))) count
