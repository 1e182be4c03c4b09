use Rattle.std.proofs.Common.{◌≡◌, ℕ, ◌+◌, ◌<◌, ◌++◌, take, drop, List, length, refl, sym, subst, ap, ◌∙◌, arith}
use Rattle.std.specs.Prelude.{Some, IsSome}
use Rattle.std.specs.List.{position_or_len}
use Rattle.bd_base.specs.declared.key.Key.{Key}
use Rattle.bd_base.specs.Keys.{same_key}
use Rattle.bd_revoke.proofs.Moves.{drop-rotated, position-Contains, position_or_len-Contains}
use Rattle.bd_revoke.proofs.revoke.move_to_front.Goals as goal

pub unwrap-place-requires : goal.unwrap-place-requires
unwrap-place-requires c =
    let is : c.place_of.result ≡ Some _ =
    c.place_of.ensures.place ∙ position-Contains c.args.key c.args.keys.now c.requires in
    subst IsSome (sym is) refl

pub returns-clause-others : goal.returns-clause-others
returns-clause-others c =
    let keys : List Key = c.args.keys.now in
    let place : ℕ = position_or_len (λ other. same_key other c.args.key) keys in
    let found : Some c.unwrap-place.result ≡ Some place =
    sym c.unwrap-place.ensures ∙ c.place_of.ensures.place ∙ position-Contains c.args.key keys c.requires in
    let is : c.unwrap-place.result ≡ place = cc in
    let within : c.unwrap-place.result < length keys =
    omega (arith, is, position_or_len-Contains c.args.key keys c.requires) in
    drop-rotated keys c.rotate_right.new.self c.unwrap-place.result c.args.key within c.rotate_right.ensures.after
    ∙ ap (λ n. take n keys ++ drop (n + 1) keys) is
