-- Bytes written as hexadecimal digits, two for each, in either case. Assumes nothing.
use Rattle.std.specs.Prelude.{◌≡◌, ℕ, ◌+◌, ◌-◌, ◌*◌, ◌<◌, Bool, cond, ◌&&◌, List, Some, None, Option, nat_le, slice_index}

abbrev pub within : ℕ → ℕ → ℕ → Bool
within low high c = nat_le low c && nat_le c high

-- the value of a digit: '0' to '9', 'a' to 'f', 'A' to 'F'
abbrev pub digit_of : ℕ → Option ℕ
digit_of c =
    cond (within 48 57 c) (Some (c - 48)) (cond (within 97 102 c) (Some (c - 87)) (cond (within 65 70 c) (Some (c - 55)) None))

-- the byte that two digits write
abbrev pub byte_of : Option ℕ → Option ℕ → Option ℕ
byte_of None low = None
byte_of (Some h) None = None
byte_of (Some h) (Some l) = Some (h * 16 + l)

-- out is old with n bytes behind it, each read from its two digits
pub record Reads (old : List ℕ) (from : ℕ) (word : List ℕ) (n : ℕ) (out : List ℕ) (len : ℕ) : Type 0 where
  pub long : len ≡ from + n
  pub front : (k : ℕ) → k < from → slice_index out k ≡ slice_index old k
  pub new : (k : ℕ) → k < n → Some (slice_index out (from + k)) ≡ byte_of (digit_of (slice_index word (2 * k))) (digit_of (slice_index word (2 * k + 1)))
