-- What lies at the front of a place. Assumes nothing.
use Rattle.std.specs.Prelude.{ℕ, ◌*◌, List, take, drop}

abbrev pub held : {X : Type 0} → ℕ → ℕ → ℕ → List X → List X
held size place n memory = take n (drop (place * size) memory)
