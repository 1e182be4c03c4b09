-- The engine enters with the pass that lay in the tables.
use Rattle.std.proofs.Common.{◌≡◌, refl, sym, ap, ◌∙◌, subst}
use Rattle.std.specs.Prelude.{◌/◌, IsSome}
use Rattle.bd_base.specs.declared.limits.TheConstants.{PART_BLOCKS}
use Rattle.bd_tables.specs.declared.request.Request.{Request}
use Rattle.bd_turns.specs.State as turns
use Rattle.bd_machine.proofs.EngineEnters.{enters_on, pass_here}
use Rattle.bd_machine.proofs.engine.Parts+PlainTables+M.enter.Goals as goal

pub request_in_hand-request-requires : goal.request_in_hand-request-requires
request_in_hand-request-requires g c =
    let w = c.requires.1.1 in record { it = w.it; there = w.there; some = subst IsSome (sym w.in_hand) refl }

pub lend-pass-requires : goal.lend-pass-requires
lend-pass-requires g c = pass_here g.g c.args.self.now c.args.q c.requires.1.1

pub enter-pass-requires-clause-own : goal.enter-pass-requires-clause-own
enter-pass-requires-clause-own g c =
    let w = c.requires.1.1 in
    c.lend-pass.ensures.process ∙ ap (λ (r : Request). r.key.process) (sym (c.request_in_hand-request.ensures.request w.it w.hand w.there w.in_hand))

pub enter-pass-requires-clause-part : goal.enter-pass-requires-clause-part
enter-pass-requires-clause-part g c =
    let w = c.requires.1.1 in
    subst (λ (r : Request). r.key.part ≡ r.index / PART_BLOCKS)
    (sym (c.request_in_hand-request.ensures.request w.it w.hand w.there w.in_hand)) refl

pub enter-pass-requires-clause-hi : goal.enter-pass-requires-clause-hi
enter-pass-requires-clause-hi g c = c.request_in_hand-request.ensures.hi

pub returns : goal.returns
returns g c =
    let w = c.requires.1.1 in
    enters_on g.g c.args.self.now c.args.q w c.goes_on.new.self c.request_in_hand-request.result c.lend-pass.result c.enter-pass.result.0
    c.enter-pass.result.1 c.found_of-found.result c.phase_after.result c.lend-pass.new.self c.enter-pass.new.self
    (record {
      request_is = c.request_in_hand-request.ensures.request w.it w.hand w.there w.in_hand;
      lent_process = c.lend-pass.ensures.process;
      lent_places = c.lend-pass.ensures.places;
      lent_tables = c.lend-pass.ensures.tables;
      answer_is = c.enter-pass.ensures.answer;
      tables_are = c.enter-pass.ensures.tables;
      places = c.enter-pass.ensures.places;
      process_is = c.enter-pass.ensures.given_back.same_process;
      back_lent = c.enter-pass.ensures.given_back.ours;
      found_is = c.found_of-found.ensures;
      phase_is = c.phase_after.ensures turns.Looking refl;
      again = c.goes_on.ensures w.it w.there;
    })
