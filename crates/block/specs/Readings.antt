-- What is read lies inside the blob, and only the block's own bytes decide it. Assumes nothing.
use Rattle.std.specs.Prelude.{◌≡◌, ℕ, ◌+◌, ◌≤◌, List, ◌++◌, length, take, drop, Some, None, Option}
use Rattle.block.specs.declared.kind.Reading.{Reading}
use Rattle.block.specs.Written.{Bytes}

-- the context lies in the block, and the block in the blob
abbrev pub Inside : List ℕ → Option Reading → Type 0
Inside blob None = Unit {0}
Inside blob (Some r) = (r.context_from + r.context_len ≤ r.len) × (r.len ≤ length blob)

-- the context of the block that was read in front of a blob
abbrev pub context_in : List ℕ → Reading → List ℕ
context_in blob r = take r.context_len (drop r.context_from blob)

-- a block that is read is read alike, whatever stands behind it
abbrev pub Alone : (List ℕ → Option Reading) → Type 0
Alone reads = (blob rest : List ℕ) (r : Reading) → Bytes blob → reads blob ≡ Some r → reads (take r.len blob ++ rest) ≡ Some r
