-- Numbers written in bytes, high byte first. Assumes nothing.
use Rattle.std.specs.Prelude.{ℕ, zero, suc, ◌+◌, ◌*◌, cond, List, length, Some, None, Option, nat_le, slice_index}

-- what the n bytes at i write
abbrev pub word : List ℕ → ℕ → ℕ → ℕ
word xs i zero = 0
word xs i (suc n) = word xs i n * 256 + slice_index xs (i + n)

-- the same, where the bytes are there
abbrev pub word? : List ℕ → ℕ → ℕ → Option ℕ
word? xs i n = cond (nat_le (i + n) (length xs)) (Some (word xs i n)) None
