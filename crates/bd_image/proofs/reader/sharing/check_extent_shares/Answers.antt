use Rattle.std.proofs.Common.{◌≡◌, ◌+◌, ◌∙◌, Bool, List, length, sym, ap, subst, arith}
use Rattle.std.proofs.lemmas.Bool.{false≢true}
use Rattle.std.proofs.lemmas.List.{with_items_is}
use Rattle.bd_image.specs.Layout.{IsUsed}
use Rattle.bd_image.proofs.Sharing.{WalkedTo, least_share, walked_all, walked_free, walked_used}
use Rattle.bd_image.proofs.reader.sharing.check_extent_shares.Goals as goal
use Rattle.bd_image.proofs.reader.sharing.check_extent_shares.Goals.{then-is_used+in_default, else-is_used}

pub returns-in-Some : goal.returns-in-Some
returns-in-Some c =
    let used : IsUsed c.args.bytes.now c.loop-j.j = (omega arith, c.is_used.ensures.0 c.if-is_used.true) in
    rw c.extent_place.ensures (least_share c.args.bytes.now c.loop-j.taken.items c.loop-j.j c.in-Some.e
    c.loop-j.invariant used c.requires.counts c.in-Some.ensures)

pub loop-j-preserved : goal.loop-j-preserved
loop-j-preserved c =
    elim c.if-is_used.branch [
      | then-is_used+in_default w ↦
          let after = w.first_shared.new.taken in
          let Walked : List Bool → Type 0 = λ taken. WalkedTo c.args.bytes.now taken (c.loop-j.j + 1) in
          let long : length after ≡ c.loop-j.taken.len = w.first_shared.auto.taken ∙ w.deref_mut.ensures.len in
          let walked : Walked after = walked_used c.args.bytes.now c.loop-j.taken.items after c.loop-j.j c.loop-j.invariant w.in_default.ensures in
          subst Walked (sym (ap (λ taken. taken.items) w.taken-is ∙ with_items_is c.loop-j.taken after long)) walked
      | else-is_used w ↦ rw w.taken-is
          (walked_free c.args.bytes.now c.loop-j.taken.items c.loop-j.j c.loop-j.invariant
          (λ u. absurd (false≢true (sym w.if-is_used.false ∙ c.is_used.ensures.1 u))))
    ]

pub returns : goal.returns
returns c = walked_all c.args.bytes.now c.loop-j.taken.items c.loop-j.j c.loop-j.invariant (omega arith)
