use Rattle.std.proofs.Common.{◌≡◌, ◌+◌, ◌<◌, length, drop, ap, ◌∙◌, arith, cond, Bool}
use Rattle.std.specs.Prelude.{Option, None, Some, slice_get, nat_lt, slice_index_or}
use Rattle.std.proofs.lemmas.Bool.{lt-ltb}
use Rattle.std.proofs.lemmas.Option.{slice_get-get_or}
use Rattle.bd_base.specs.declared.key.Key.{Key}
use Rattle.bd_revoke.specs.Revocation.{Revocation}
use Rattle.bd_revoke.proofs.Moves.{slice_range-next}
use Rattle.bd_revoke.proofs.revoke.Revoke.step.Goals as goal

pub returns-then-self-2-clause-revocation : goal.returns-then-self-2-clause-revocation
returns-then-self-2-clause-revocation g c =
    let a = c.self.inside in
    let key : Key = c.index-self-self.result in
    let same : a.posted ≡ a.cleared = omega (arith, c.if-self.false, c.self.invariant.posted) in
    let within : a.cleared < length a.keys =
    omega (arith, c.if-self-2.true, c.self.invariant.count, c.self.invariant.room) in
    let to_clear =
    slice_range-next a.keys a.cleared a.count ∙ ap (λ (r : Revocation). drop 1 r.to_clear) c.self.view_is in
    let first : Option Key = slice_get a.keys a.posted in
    let answer : Bool → Option Key = λ b. cond b first None in
    let to_post : answer (nat_lt a.posted (a.cleared + 1)) ≡ Some (slice_index_or a.keys a.cleared key) =
    ap answer (lt-ltb a.posted (a.cleared + 1) (omega (arith, same)))
    ∙ ap (slice_get a.keys) same ∙ slice_get-get_or a.keys a.cleared key within in
    let waiting = ap (λ (r : Revocation). r.waiting) c.self.view_is in
    let by = ap (λ (r : Revocation). r.by) c.self.view_is in
    λ i. record { to_clear = to_clear i; to_post = to_post i; waiting = waiting i; by = by i }
