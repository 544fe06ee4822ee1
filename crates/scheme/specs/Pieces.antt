-- Shards with their indices, and one verdict for each. Assumes nothing.
use Rattle.std.specs.Prelude.{ℕ, Bool, cond, List, ◌++◌, map, length, drop, nat_le}
use Rattle.scheme.specs.declared.piece.Piece.{Piece}

pub record Indexed : Type 0 where
  pub index : ℕ
  pub bytes : List ℕ

abbrev pub indexed : Piece → Indexed
indexed p = record { index = p.index; bytes = p.bytes.now }

-- a verdict for each shard, in order, at the front of the room where there is enough; else the room as it was
abbrev pub judged : (ℕ → List ℕ → Bool) → List Indexed → List Bool → List Bool
judged good shards room =
    cond (nat_le (length shards) (length room))
    (map (λ s. good s.index s.bytes) shards ++ drop (length shards) room) room
