use Rattle.std.proofs.Common.{◌≡◌, ℕ, ◌-◌, ◌≤◌, List, length, take, drop, sym, ap, ◌∙◌, arith, cond}
use Rattle.std.specs.Prelude.{Option, None, slice_get, nat_lt}
use Rattle.std.proofs.lemmas.List.Edits.{length-between}
use Rattle.std.proofs.lemmas.Slice.{between-put_mid, drop-put_mid}
use borrow.Rule.Slice.PartMut.{put_mid}
use Rattle.bd_base.specs.declared.key.Key.{Key}
use Rattle.bd_revoke.specs.Revocation.{Revocation, without}
use Rattle.bd_revoke.proofs.Moves.{slice_range-next, slice_get-drop}
use Rattle.bd_revoke.proofs.revoke.Revoke.detached.Goals as goal

pub returns : goal.returns
returns c =
    let a = c.self.inside in
    let held = c.self.invariant in
    let moved : List Key = c.move_to_front.new.keys in
    let keys : List Key = put_mid a.detached (a.posted - a.detached) a.keys moved in
    let within : a.detached ≤ length a.keys =
    omega (arith, held.room, held.detached, held.posted, held.cleared, held.count) in
    let count : length moved ≡ a.posted - a.detached =
    c.move_to_front.ensures.count ∙ length-between a.keys a.detached a.posted (omega (arith, held.room, held.posted, held.cleared, held.count)) in
    let stays : (n : ℕ) → a.posted ≤ n → drop n keys ≡ drop n a.keys =
    λ n past. drop-put_mid a.detached (a.posted - a.detached) a.keys moved n (omega (arith, past, held.detached)) within count in
    let to_clear =
    ap (take (a.count - a.cleared)) (stays a.cleared held.posted) ∙ ap (λ (r : Revocation). r.to_clear) c.self.view_is in
    let first : slice_get keys a.posted ≡ slice_get a.keys a.posted =
    slice_get-drop keys a.posted ∙ ap (λ (ks : List Key). slice_get ks 0) (stays a.posted (omega arith)) ∙ sym (slice_get-drop a.keys a.posted) in
    let to_post =
    ap (λ (o : Option Key). cond (nat_lt a.posted a.cleared) o None) first ∙ ap (λ (r : Revocation). r.to_post) c.self.view_is in
    let waiting =
    slice_range-next keys a.detached a.posted
    ∙ ap (drop 1) (between-put_mid a.detached (a.posted - a.detached) a.keys moved a.posted within count)
    ∙ c.move_to_front.ensures.others ∙ ap (λ (r : Revocation). without c.args.key r.waiting) c.self.view_is in
    let by = ap (λ (r : Revocation). r.by) c.self.view_is in
    λ i. record { to_clear = to_clear i; to_post = to_post i; waiting = waiting i; by = by i }
