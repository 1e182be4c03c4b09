-- The pass that the engine keeps shows where its walk has come to.
use Rattle.std.proofs.Common.{refl, sym, ap, ◌∙◌, subst}
use Rattle.std.specs.Prelude.{IsSome, is_some}
use Rattle.std.specs.Option.{option_copied}
use Rattle.bd_machine.specs.declared.process.Phase.TheVariants.{Missing}
use Rattle.bd_machine.proofs.EngineLooks.{in_phase, kept_pass, lent_kept, taken_pass}
use Rattle.bd_machine.proofs.EngineMisses.{found_there}
use Rattle.bd_machine.proofs.EngineTakes.{pass_read, read_as}
use Rattle.bd_tables.specs.State.{found_of}
use Rattle.bd_turns.specs.State as turns
use Rattle.bd_machine.proofs.engine.Parts+PlainTables+M.found.Goals as goal

pub unwrap-pass-requires : goal.unwrap-pass-requires
unwrap-pass-requires g c =
    let w = c.requires.1 in
    let x = c.args.self.now in
    let read = read_as x c.args.q c.get.result w.it c.index.result.now c.get.ensures.value w.there c.index.ensures in
    c.as_ref.ensures.variant ∙ ap (λ p. is_some p.pass) read ∙ ap is_some (kept_pass g.g x c.args.q Missing w refl).1

pub found-requires : goal.found-requires
found-requires g c =
    let w = c.requires.1 in
    let x = c.args.self.now in
    let pass_is =
    pass_read x c.args.q c.get.result w.it c.index.result.now (option_copied c.as_ref.result) c.unwrap-pass.result.now
    c.get.ensures.value w.there c.index.ensures c.as_ref.ensures.value (ap option_copied c.unwrap-pass.ensures) in
    lent_kept g.g x c.args.q Missing w refl c.unwrap-pass.result.now pass_is

pub unwrap-requires : goal.unwrap-requires
unwrap-requires g c =
    let w = c.requires.1 in
    let x = c.args.self.now in
    let pass_is =
    pass_read x c.args.q c.get.result w.it c.index.result.now (option_copied c.as_ref.result) c.unwrap-pass.result.now
    c.get.ensures.value w.there c.index.ensures c.as_ref.ensures.value (ap option_copied c.unwrap-pass.ensures) in
    let walk = (taken_pass g.g x c.args.q Missing w refl c.unwrap-pass.result.now (sym pass_is)).1 c.args.q refl in
    subst IsSome
    (sym (c.found.ensures ∙ ap found_of (sym walk)
    ∙ (found_there g.g x c.args.q (in_phase g.g x c.args.q Missing w turns.Missing refl)).1)) refl

pub returns : goal.returns
returns g c =
    let w = c.requires.1 in
    let x = c.args.self.now in
    let pass_is =
    pass_read x c.args.q c.get.result w.it c.index.result.now (option_copied c.as_ref.result) c.unwrap-pass.result.now
    c.get.ensures.value w.there c.index.ensures c.as_ref.ensures.value (ap option_copied c.unwrap-pass.ensures) in
    let walk = (taken_pass g.g x c.args.q Missing w refl c.unwrap-pass.result.now (sym pass_is)).1 c.args.q refl in
    record {
      engine = in_phase g.g x c.args.q Missing w turns.Missing refl;
      found_is = ap found_of walk ∙ sym c.found.ensures ∙ c.unwrap.ensures;
      room = w.room;
    }
