-- What always holds of the tables holds of new ones.
use Rattle.std.proofs.Common.{◌≡◌, None, Some, replicate, ap, sym, ◌∙◌, subst, refl}
use Rattle.bd_tables.specs.Kept.{IsKept}
use Rattle.bd_tables.specs.Plain.{PlainState, new_plain}
use Rattle.bd_tables.proofs.KeptNew.{kept-new}
use Rattle.bd_tables.proofs.plain.PlainTables.new.Goals as goal

pub invariant_of-result : goal.invariant_of-result
invariant_of-result c =
    let places : c.in_ok-places.places.items ≡ replicate c.args.processes None =
    c.in_ok-places.ensures.items_if_clones_equal (elim [ None ↦ λ same. refl | Some walk ↦ λ same. absurd same ])
    ∙ ap (λ n. replicate n None) c.from.ensures in
    let same : new_plain c.args.processes ≡ (let all : PlainState = record {
      rights = c.in_ok-rights.rights;
      book = c.in_ok-pool.pool;
      lines = c.new-4.result;
      places = c.in_ok-places.places.items;
    } in all) =
    λ i. record {
      rights = sym c.in_ok-rights.ensures i;
      book = sym c.in_ok-pool.ensures i;
      lines = sym c.new-4.ensures i;
      places = sym places i;
    } in
    subst (λ (plain : PlainState). IsKept plain c.in_ok-directory.directory) same
    (kept-new c.args.processes c.requires c.in_ok-directory.directory c.in_ok-directory.ensures)
