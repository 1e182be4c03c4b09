use Rattle.std.proofs.Common.{◌≡◌, ◌↔◌, ◌⊎◌, List, ℕ, IsTrue, rules, sym, ◌∙◌}
use Rattle.std.proofs.lemmas.Bool.{false≢true}
use Rattle.bd_image.specs.Layout.{name_field}
use Rattle.bd_image.specs.Names.{HasName}
use Rattle.bd_image.proofs.Seen.{knows_added, knows_more}
use Rattle.bd_image.proofs.reader.seen.check_names_fresh.Goals as goal
use Rattle.bd_image.proofs.reader.seen.check_names_fresh.Goals.{then-is_used+in_ok-is_new+else-not-is_new, else-is_used}

pub loop-j-preserved : goal.loop-j-preserved
loop-j-preserved c =
    let b = c.args.bytes.now in
    let j = c.loop-j.j in
    elim c.if-is_used.branch [
      | then-is_used+in_ok-is_new+else-not-is_new w ↦
          let field = w.name_field.ensures.field in
          let added = w.in_ok-is_new.ensures in
          let is_new : IsTrue w.in_ok-is_new.is_new = search rules in
          let fresh : ¬ HasName c.loop-j.seen (name_field b j) = rw field at (added.added.0 is_new) in
          let names : (f : List ℕ) → HasName w.add_name.new.seen f ↔
          (HasName c.loop-j.seen f ⊎ (f ≡ name_field b j)) = λ f. rw field at (added.names f) in
          rw w.seen-is (knows_added b c.loop-j.seen w.add_name.new.seen j c.loop-j.invariant (c.is_used.ensures.0 w.if-is_used.true) fresh names)
      | else-is_used w ↦ rw w.seen-is
          (knows_more b c.loop-j.seen j c.loop-j.invariant
          (λ u. absurd (false≢true (sym w.if-is_used.false ∙ c.is_used.ensures.1 u))))
    ]
