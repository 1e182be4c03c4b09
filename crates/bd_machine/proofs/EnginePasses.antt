-- Passes: where the engine of a lent one is, and that the others stay where they are.
use Rattle.std.proofs.Common.{◌≡◌, ℕ, length, set, Option, None, sym, ap, ◌∙◌, subst, arith}
use Rattle.std.proofs.lemmas.List.{get_or-set_other, length-set}
use Rattle.bd_machine.proofs.Showing.{KeepsPasses}
use Rattle.bd_tables.specs.declared.plain.PlainPass.{PlainPass}
use Rattle.bd_tables.specs.declared.state.Walk.{Walk}
use Rattle.bd_tables.specs.Passes.{IsLent}
use Rattle.bd_tables.specs.Plain.{LiesHere, Places, PlainState, place_at, tables_of, walk_of}
use Rattle.bd_tables.specs.State.{walk_at}
use Rattle.bd_tables.proofs.Places.{walk_at-places}
use Rattle.bd_machine.specs.Shows.{plain_sides}

-- a lent pass shows where its engine is
pub lent_walk : (t : PlainState) (q : ℕ) (pass : PlainPass) → pass.process ≡ q → IsLent t pass → walk_at (tables_of t).walks q ≡ pass.walk
lent_walk t q pass same lent =
    walk_at-places t.places q ∙ ap (λ (n : ℕ). walk_of (place_at t.places n)) (sym same) ∙ ap walk_of lent

-- the passes of the others stay where they are, as that of one process changes
pub keeps_passes : (old new : PlainState) (q : ℕ) (place : Option Walk) → new.places ≡ set old.places q place → KeepsPasses plain_sides old new q
keeps_passes old new q place is = record {
  lent = λ pass differ was.
      ap (λ (ps : Places). place_at ps pass.process) is ∙ get_or-set_other old.places q pass.process place None differ ∙ was;
  going = λ no. no;
  here = λ other differ was.
      let count : length new.places ≡ length old.places = ap (λ (ps : Places). length ps) is ∙ length-set old.places q place in
      record {
        within = omega (arith, was.within, count);
        here = ap (λ (ps : Places). place_at ps other) is ∙ get_or-set_other old.places q other place None differ ∙ was.here;
      };
}

-- and as none changes
pub keeps_all_passes : (old new : PlainState) (q : ℕ) → new.places ≡ old.places → KeepsPasses plain_sides old new q
keeps_all_passes old new q is = record {
  lent = λ pass differ was. ap (λ (ps : Places). place_at ps pass.process) is ∙ was;
  here = λ other differ was. subst (λ (ps : Places). LiesHere ps other) (sym is) was;
  going = λ no. no;
}

-- one change after another
pub then_passes : (a b c : PlainState) (q : ℕ) → KeepsPasses plain_sides a b q → KeepsPasses plain_sides b c q → KeepsPasses plain_sides a c q
then_passes a b c q first second = record {
  lent = λ pass differ was. second.lent pass differ (first.lent pass differ was);
  here = λ other differ was. second.here other differ (first.here other differ was);
  going = λ no. no;
}
