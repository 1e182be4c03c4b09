-- Where the pass of an engine is, by the phase in which it is shown.
use Rattle.std.proofs.Common.{◌≡◌, ◌⊎◌, inl, inr, ⊎_elim, ℕ, Bool, true, false, Option, None, Some, refl, sym, ap, ◌∙◌, subst}
use Rattle.bd_machine.specs.declared.process.Hand.{Hand}
use Rattle.bd_machine.specs.declared.process.Phase as process
use Rattle.bd_machine.specs.declared.process.Phase.TheVariants as phases
use Rattle.bd_machine.specs.declared.process.Process.{Process}
use Rattle.bd_machine.specs.Shows.{IsEngineHere, IsPassWhere, does_walk, has_pass, phase_of}
use Rattle.bd_machine.proofs.ShowingSteps.{KeepsPasses}
use Rattle.bd_tables.specs.declared.sides.Tables as sides
use Rattle.bd_turns.specs.State.{Phase, Completing}

-- whether an engine that is shown in this phase walks with its pass
abbrev pub walks_with : Option Phase → Bool
walks_with None = false
walks_with (Some Completing) = false
walks_with (Some phase) = true

-- the phase of a process tells the same of its pass
pub has_pass_is : (mark : process.Phase) → has_pass mark ≡ walks_with (phase_of mark)
has_pass_is phases.Taken = refl
has_pass_is phases.Looking = refl
has_pass_is phases.Reading = refl
has_pass_is phases.Filling = refl
has_pass_is phases.Moving = refl
has_pass_is phases.Missing = refl
has_pass_is phases.Retiring = refl
has_pass_is phases.Completing = refl

-- nothing changes where no pass is lent or taken back
pub same_passes : {T P : Type 0} {K : sides.Ghosts T P} (t : T) (q : ℕ) → KeepsPasses K t t q
same_passes t q = record { lent = λ pass differ is. is; here = λ other differ is. is; going = λ apart. apart }

-- the engine has another hand or phase, in which it walks with its pass exactly where it did
pub goes_on_with : {T P : Type 0} {K : sides.Ghosts T P} (t : T) (q : ℕ) (phase next : Option Phase) (y z : Process P) (walks : Bool) →
    (phase ≡ phase_of y.phase → does_walk y.phase y.hand ≡ walks) → next ≡ phase_of z.phase → does_walk z.phase z.hand ≡ walks →
    z.pass ≡ y.pass → K.apart t ⊎ IsEngineHere K t q phase y → K.apart t ⊎ IsEngineHere K t q next z
goes_on_with {T} {P} {K} t q phase next y z walks before next_is after pass is =
    ⊎_elim {C = K.apart t ⊎ IsEngineHere K t q next z}
    (λ apart. inl apart)
    (λ here. inr (record {
      phase_is = next_is;
      pass =
          subst (λ (b : Bool). IsPassWhere K b t q z.pass) (sym after)
          (subst (IsPassWhere K walks t q) (sym pass)
          (subst (λ (b : Bool). IsPassWhere K b t q y.pass) (before here.phase_is) here.pass));
    }))
    is

-- whether the engine walks with this command in its hand
pub walks_in : {P : Type 0} (y : Process P) (phase : Option Phase) (hand : Hand) → y.hand ≡ Some hand → phase ≡ phase_of y.phase →
    does_walk y.phase y.hand ≡ walks_with phase
walks_in y phase hand in_hand is = ap (does_walk y.phase) in_hand ∙ has_pass_is y.phase ∙ ap walks_with (sym is)
