-- Sets of parts as marks.
use Rattle.std.specs.Prelude.{ℕ, ◌+◌, Bool, true, false, List, [], ◌∷◌}

-- the numbers of the marks that are set, where the first mark has this number
abbrev pub marked_from : ℕ → List Bool → List ℕ
marked_from number [] = []
marked_from number (true ∷ marks) = number ∷ marked_from (number + 1) marks
marked_from number (false ∷ marks) = marked_from (number + 1) marks
