-- The shards that a block is opened from: those checked before, then the pending ones that are good. Assumes nothing.
use Rattle.std.specs.Prelude.{ℕ, ◌-◌, Bool, ◌&&◌, List, ◌++◌, take, drop, filter, nat_le}
use Rattle.scheme.specs.Pieces.{Indexed}

-- the first `checked` of the shards have been checked, and the others are pending
abbrev pub gathered : (ℕ → List ℕ → Bool) → ℕ → List Indexed → List Indexed
gathered good checked shards =
    take checked shards ++ filter (λ s. good s.index s.bytes) (drop checked shards)

-- there are as many, and room for the verdicts on the pending ones
abbrev pub roomy : ℕ → ℕ → ℕ → Bool
roomy checked shards verdicts = nat_le checked shards && nat_le (shards - checked) verdicts
