-- What calls wait for.
use Rattle.std.proofs.Common.{◌≡◌, ℕ, Bool, true, false, cond, Option, None, Some, refl, sym}
use Rattle.std.specs.Prelude.{is_some}
use Rattle.std.specs.Option.{option_map, option_or}
use Rattle.std.proofs.lemmas.Bool.{false≢true}
use Rattle.bd_entry.specs.declared.act.Act.{Act}
use Rattle.bd_kernel.specs.Blockers.{blocker_in, busy_by}

-- a refusal, or the holder that is waited for before it, comes before all else
pub refusal_first : (b : Bool) (refused : Act) (o rest : Option Act) →
    option_or (cond b (Some refused) (option_or o (Some refused))) rest ≡ cond b (Some refused) (option_or o (Some refused))
refusal_first true refused o rest = refl
refusal_first false refused None rest = refl
refusal_first false refused (Some act) rest = refl

-- so does a holder alone
pub holder_first : (o rest : Option Act) → is_some (blocker_in o) ≡ true → blocker_in o ≡ blocker_in (option_or o rest)
holder_first None rest some = absurd (false≢true some)
holder_first (Some act) rest some = refl

-- where none is waited for, none is there
pub none_held : (o : Option (ℕ × ℕ)) → is_some (blocker_in (option_map busy_by o)) ≡ false → option_map busy_by o ≡ None
none_held None none = refl
none_held (Some held) none = absurd (false≢true (sym none))

pub not_there : {X : Type 0} (o : Option X) → ((x : X) → o ≡ Some x → ⊥) → o ≡ None
not_there None none = refl
not_there (Some x) none = absurd (none x refl)
