-- The written form of a number and of a head. Assumes nothing.
use Rattle.std.specs.Prelude.{◌≡◌, ℕ, zero, suc, ◌/◌, ◌%◌, ◌^◌, ◌<◌, List, [], ◌∷◌, ◌++◌, length, slice_index}

-- a list of bytes
abbrev pub Bytes : List ℕ → Type 0
Bytes xs = (i : ℕ) → slice_index xs i < 256

-- a number in k bytes, high byte first
unfoldable pub number_bytes : ℕ → ℕ → List ℕ
number_bytes zero n = []
number_bytes (suc k) n = number_bytes k (n / 256) ++ n % 256 ∷ []

-- a byte that counts the context, the context, the parent's digest, the height in eight bytes
abbrev pub head_bytes : List ℕ → List ℕ → ℕ → List ℕ
head_bytes context parent height = length context ∷ context ++ parent ++ number_bytes 8 height

-- what has a written form
pub record HeadHolds (context parent : List ℕ) (height : ℕ) : Type 0 where
  pub context_short : length context < 256
  pub parent_long : length parent ≡ 32
  pub height_low : height < 2 ^ 64

-- content behind its length in two bytes
abbrev pub sized_bytes : List ℕ → List ℕ
sized_bytes content = number_bytes 2 (length content) ++ content
