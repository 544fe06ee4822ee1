-- The length frame: a blob's length in four bytes, high first, the blob, and zeros up to equal pieces. Assumes nothing.
use Rattle.std.specs.Prelude.{ℕ, ◌+◌, ◌-◌, ◌*◌, ◌/◌, ◌%◌, Bool, true, cond, ◌&&◌, List, [], ◌∷◌, ◌++◌, length, take, drop, replicate, Ok, Err, ◌==◌, nat_le, nat_lt}
use Rattle.register.specs.Words.{word}
use Rattle.scheme.specs.declared.fault.Fault.TheVariants.{BadLength, Padding, TooLong}
use Rattle.scheme.specs.Told.{Opened}

-- how long each of k pieces of a framed blob of n bytes is: (n + 4) / k, rounded up
abbrev pub piece_length : ℕ → ℕ → ℕ
piece_length k n = cond (k == 0) 0 ((n + 4 + (k - 1)) / k)

-- a number in four bytes, high first
abbrev pub four_bytes : ℕ → List ℕ
four_bytes n = n / 16777216 % 256 ∷ n / 65536 % 256 ∷ n / 256 % 256 ∷ n % 256 ∷ []

-- a blob framed for k pieces
abbrev pub framed : ℕ → List ℕ → List ℕ
framed k blob =
    four_bytes (length blob) ++ blob ++ replicate (k * piece_length k (length blob) - (4 + length blob)) 0

abbrev pub zeros : List ℕ → Bool
zeros [] = true
zeros (x ∷ xs) = x == 0 && zeros xs

-- the blob in framed bytes that are k pieces of s bytes, or the first fault
abbrev pub unframed : ℕ → ℕ → ℕ → List ℕ → Opened
unframed limit k s bytes =
    cond (nat_lt (length bytes) 4) (Err BadLength)
    (cond (piece_length k (word bytes 0 4) == s)
    (cond (zeros (drop (4 + word bytes 0 4) bytes))
    (cond (nat_le (word bytes 0 4) limit) (Ok (take (word bytes 0 4) (drop 4 bytes))) (Err TooLong))
    (Err Padding))
    (Err BadLength))
