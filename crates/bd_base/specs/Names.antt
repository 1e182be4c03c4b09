-- Names of files.
use Rattle.std.specs.Prelude.{◌≡◌, ◌⊎◌, ℕ, ◌<◌, ◌≤◌, List, length, All}
use Rattle.bd_base.specs.declared.limits.TheConstants.{NAME_SIZE}

-- a byte of a name: a to z, 0 to 9, a dot, an underscore or a dash
abbrev pub IsNameByte : ℕ → Type 0
IsNameByte c =
    ((97 ≤ c) × (c ≤ 122)) ⊎ (((48 ≤ c) × (c ≤ 57)) ⊎ ((c ≡ 46) ⊎ ((c ≡ 95) ⊎ (c ≡ 45))))

-- 1 to 31 such bytes
pub record IsName (name : List ℕ) : Type 0 where
  pub least : 0 < length name
  pub most : length name ≤ NAME_SIZE
  pub bytes : All IsNameByte name
