use Rattle.std.proofs.Common.{◌≡◌, ◌≢◌, ℕ, ◌+◌, ◌++◌, ◌∷◌, [], List, length, true, ap, sym, ◌∙◌, subst, inr, arith, length-append}
use Rattle.std.proofs.lemmas.List.{length_push}
use Rattle.std.proofs.lemmas.List.Elements.{All-push}
use Rattle.bd_blocks.specs.declared.text.TheConstants.{LF}
use Rattle.bd_entry.specs.Ranges.{AreEntries, IsEntry}
use Rattle.bd_entry.specs.Texts.{entry_text, header, journal_text}
use Rattle.bd_entry.specs.declared.entry.Entry.{Entry}
use Rattle.bd_entry.proofs.Lines.{line_read}
use Rattle.bd_entry.proofs.read.read_lines.Goals as goal

pub returns-in_default-2-clause-refused : goal.returns-in_default-2-clause-refused
returns-in_default-2-clause-refused c =
    let none : (e : Entry) → IsEntry e → c.in-Some.line.now ≢ entry_text e = rw c.in_default-2.is at c.in_ok-entry.ensures in
    inr (record {
      good = c.loop-rest.entries;
      are_entries = c.loop-rest.invariant.good;
      line = c.in-Some.line.now;
      ended = true;
      rest = c.in-Some.next.now;
      one_line = c.in-Some.ensures.first;
      some = λ no. absurd (let never : ⊥ = cc no in never);
      follows = c.loop-rest.invariant.text ∙ ap (λ (t : List ℕ). journal_text c.loop-rest.entries ++ t) c.in-Some.ensures.split;
      number_is = c.loop-rest.invariant.number;
      broken = inr (λ reading. none reading.0 reading.1 reading.2);
    })

pub loop-rest-preserved : goal.loop-rest-preserved
loop-rest-preserved c =
    let was = c.loop-rest.invariant in
    let entries = c.loop-rest.entries in
    let entry = c.in-Some-2.entry in
    let read : IsEntry entry × (c.in-Some.line.now ≡ entry_text entry) = rw c.in-Some-2.is at c.in_ok-entry.ensures in
    let grown : c.push.new.self ≡ entries ++ entry ∷ [] = c.in_ok-push.ensures.ok in
    let count : length c.push.new.self ≡ length entries + 1 = ap length grown ∙ length_push entries entry in
    let splits : c.loop-rest.rest.now ≡ c.in-Some.line.now ++ LF ∷ c.in-Some.next.now = c.in-Some.ensures.split in
    record {
      good = subst (λ (es : List Entry). AreEntries es) (sym grown) (All-push IsEntry entries entry was.good read.0);
      text = line_read entries entry (header ++ LF ∷ c.args.text.now) c.loop-rest.rest.now c.in-Some.line.now c.in-Some.next.now was.text splits read.1
          ∙ ap (λ (es : List Entry). journal_text es ++ c.in-Some.next.now) (sym grown);
      number = omega (arith, was.number);
      room = omega (arith, was.room, ap length splits, length-append c.in-Some.line.now (LF ∷ c.in-Some.next.now));
    }
