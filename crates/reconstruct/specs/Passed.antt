-- What passes, in order. Assumes nothing.
use Rattle.std.specs.Prelude.{Bool, true, false, List, [], ◌∷◌}

abbrev pub passed : {X : Type 0} → List X → List Bool → List X
passed [] vs = []
passed (x ∷ xs) [] = []
passed (x ∷ xs) (true ∷ vs) = x ∷ passed xs vs
passed (x ∷ xs) (false ∷ vs) = passed xs vs
