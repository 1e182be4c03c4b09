use Rattle.std.proofs.Common.{◌≡◌, ◌+◌, ◌<◌, ◌++◌, [], ◌∷◌, length, ap, sym, subst, ◌∙◌, arith, cond, Bool}
use Rattle.std.specs.Prelude.{Option, None, IsSome, slice_get, slice_index_or, nat_lt}
use Rattle.std.proofs.lemmas.Bool.{le-ltb}
use Rattle.std.proofs.lemmas.List.Edits.{between_more}
use Rattle.bd_base.specs.declared.key.Key.{Key}
use Rattle.bd_revoke.specs.Revocation.{Revocation}
use Rattle.bd_revoke.specs.Stages.{revocation}
use Rattle.bd_revoke.proofs.Moves.{IsSome-below}
use Rattle.bd_revoke.proofs.revoke.Revoke.post.Goals as goal

pub returns-in-Ok-clause-revocation : goal.returns-in-Ok-clause-revocation
returns-in-Ok-clause-revocation c =
    let a = c.self.inside in
    let key : Key = c.index-self-self.result in
    let to_clear = ap (λ (r : Revocation). r.to_clear) c.self.view_is in
    let by = ap (λ (r : Revocation). r.by) c.self.view_is in
    let next : Option Key = slice_get a.keys (a.posted + 1) in
    let answer : Bool → Option Key = λ b. cond b next None in
    let to_post : answer (nat_lt (a.posted + 1) a.cleared) ≡ None =
    ap answer (le-ltb (a.posted + 1) a.cleared c.self.invariant.at_most_one) in
    let HasNext : Revocation → Type 0 = λ r. IsSome r.to_post in
    let is_next : HasNext (revocation a) = subst HasNext (sym c.self.view_is) c.requires in
    let below : a.posted < a.cleared = IsSome-below a.posted a.cleared (slice_get a.keys a.posted) is_next in
    let within : a.posted < length a.keys =
    omega (arith, below, c.self.invariant.room, c.self.invariant.cleared, c.self.invariant.count) in
    let waiting =
    between_more a.keys a.detached a.posted key c.self.invariant.detached within
    ∙ ap (λ (r : Revocation). r.waiting ++ slice_index_or a.keys a.posted key ∷ []) c.self.view_is in
    λ i. record { to_clear = to_clear i; to_post = to_post i; waiting = waiting i; by = by i }
