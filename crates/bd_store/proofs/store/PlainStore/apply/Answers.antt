use Rattle.std.proofs.Common.{◌≡◌, Err, ap, ◌∙◌, subst}
use Rattle.std.proofs.lemmas.Result.{err_from_is_err_and}
use Rattle.bd_entry.specs.Calls.{Place, at_of}
use Rattle.bd_entry.specs.Rules.{place_in}
use Rattle.bd_store.specs.Kept.{BreaksAt, IsBroken}
use Rattle.bd_store.specs.declared.store.ApplyError.TheVariants.{Broken, OutOfMemory}
use Rattle.bd_store.proofs.Applies.{in_store, kept_all, next-piece, none_broken, one_broken}
use Rattle.bd_store.proofs.store.PlainStore.apply.Goals as goal

pub broken_rule-requires-clause-piece : goal.broken_rule-requires-clause-piece
broken_rule-requires-clause-piece g c = next-piece g.s c.args.call.now c.args.entry.now c.requires.1.1.1

pub returns-in-Some-clause-broken : goal.returns-in-Some-clause-broken
returns-in-Some-clause-broken g c number =
    let e = c.args.entry.now in
    let p : Place = place_in g.s c.args.call.now (at_of e) in
    let least : IsBroken g.s p e c.broken_rule.result =
    in_store c.args.self.now g.s c.args.call.now e (λ s p. IsBroken s p e c.broken_rule.result) c.requires.0 c.broken_rule.ensures in
    let breaks : BreaksAt g.s p e c.in-Some.rule = subst (IsBroken g.s p e) c.in-Some.is least in (
      λ same. let is : c.in-Some.rule ≡ number = cc in subst (BreaksAt g.s p e) is breaks,
      λ other. ap (λ n. Err (Broken n)) (one_broken g.s p e c.in-Some.rule number breaks other),
    )

pub change-requires : goal.change-requires
change-requires g c = (
  c.requires.0,
  (
    c.requires.1.0,
    (
      c.requires.1.1.0,
      record {
        next = c.requires.1.1.1;
        keeps = kept_all c.args.self.now g.s c.args.call.now c.args.entry.now c.broken_rule.result c.requires.0 c.broken_rule.ensures c.in_default.is;
      },
    ),
  ),
)

pub returns-clause-keeps : goal.returns-clause-keeps
returns-clause-keeps g c =
    kept_all c.args.self.now g.s c.args.call.now c.args.entry.now c.broken_rule.result c.requires.0 c.broken_rule.ensures c.in_default.is

pub returns-clause-effect : goal.returns-clause-effect
returns-clause-effect g c = c.in_ok-change.ensures.effect

pub returns-clause-broken : goal.returns-clause-broken
returns-clause-broken g c number =
    let keeps = kept_all c.args.self.now g.s c.args.call.now c.args.entry.now c.broken_rule.result c.requires.0 c.broken_rule.ensures c.in_default.is in (
      λ same. absurd cc,
      λ breaks. absurd (none_broken g.s (place_in g.s c.args.call.now (at_of c.args.entry.now)) c.args.entry.now number keeps breaks),
    )

pub returns-in_err-change-clause-broken : goal.returns-in_err-change-clause-broken
returns-in_err-change-clause-broken g c number =
    let keeps = kept_all c.args.self.now g.s c.args.call.now c.args.entry.now c.broken_rule.result c.requires.0 c.broken_rule.ensures c.in_default.is in
    let p = err_from_is_err_and c.from_residual.result c.from_residual.ensures.1 in
    let memory : c.from_residual.result ≡ Err OutOfMemory = p.1 ∙ ap Err p.2 in (
      λ same. absurd cc,
      λ breaks. absurd (none_broken g.s (place_in g.s c.args.call.now (at_of c.args.entry.now)) c.args.entry.now number keeps breaks),
    )

pub returns-in_err-change-clause-err : goal.returns-in_err-change-clause-err
returns-in_err-change-clause-err g c =
    let p = err_from_is_err_and c.from_residual.result c.from_residual.ensures.1 in
    rw p.1 c.in_err-change.ensures.err

pub returns-in_err-change-clause-keeps : goal.returns-in_err-change-clause-keeps
returns-in_err-change-clause-keeps g c =
    let p = err_from_is_err_and c.from_residual.result c.from_residual.ensures.1 in
    rw p.1 tt

pub returns-in_err-change-clause-effect : goal.returns-in_err-change-clause-effect
returns-in_err-change-clause-effect g c =
    let p = err_from_is_err_and c.from_residual.result c.from_residual.ensures.1 in
    rw p.1 tt
