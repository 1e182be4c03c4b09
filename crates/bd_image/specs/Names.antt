-- Sets of names.
use Rattle.std.specs.Prelude.{ℕ, List, IsTrue}
use Rattle.std.specs.HashSet.{HashSet, contains_by}
use Rattle.std.specs.Str.{bytes_eq}
use denote.Ref.{Bor}

-- the set has the field of this name
abbrev pub HasName : {S : Type 0} → HashSet (Bor (List ℕ)) S → List ℕ → Type 0
HasName seen field = IsTrue (contains_by (λ name. bytes_eq field name.now) seen)
