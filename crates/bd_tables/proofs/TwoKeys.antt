-- What happens to one key leaves another as it is.
use Rattle.std.proofs.Common.{◌≡◌, ◌≢◌, ℕ, Bool, false, ap, sym, subst, inl, inr}
use Rattle.std.proofs.lemmas.Bool.{cases_Bool}
use Rattle.bd_base.specs.declared.key.Key.{Key}
use Rattle.bd_base.specs.Keys.{key_cmp_total, same_key, same_key-is}
use Rattle.bd_tables.specs.declared.state.RightState.{RightState}
use Rattle.bd_tables.specs.Effects.{attach_right, new_right}
use Rattle.bd_tables.specs.Kernel.{IsAttachedIn, KernelState, KeyIs, key_detached, key_in_state}
use Rattle.bd_tables.proofs.KeptRights.{to_states}
use Rattle.bd_tables.proofs.Maps.{other_key, other_key-change, other_key-remove}

-- keys of different processes are different
pub processes_apart : (a b : Key) → a.process ≢ b.process → same_key a b ≡ false
processes_apart a b differ = elim (cases_Bool (same_key a b)) [
  | inl same ↦ absurd (differ (ap (λ (key : Key). key.process) (same_key-is a b same)))
  | inr other ↦ other
]

module _ (kernel : KernelState) (key other : Key) (P : RightState → Type 0) (differs : same_key other key ≡ false) (is : KeyIs P kernel other) where
  pub other-in_state : (state : RightState) → KeyIs P (key_in_state kernel key state) other
  other-in_state state =
      subst (IsAttachedIn P) (sym (other_key-change key_cmp_total kernel.rights key (to_states (λ _. state)) other differs)) is

  pub other-detached : KeyIs P (key_detached kernel key) other
  other-detached = subst (IsAttachedIn P) (sym (other_key-remove key_cmp_total kernel.rights key other differs)) is

  pub other-attached : (file : ℕ) (write : Bool) → KeyIs P (record kernel { rights = attach_right kernel.rights key file write }) other
  other-attached file write =
      subst (IsAttachedIn P) (sym (other_key key_cmp_total kernel.rights key (new_right file write) other differs)) is
