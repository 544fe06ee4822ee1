-- SHA-256 as FIPS 180-4 defines it, for messages of whole bytes.
-- A message is its list of bytes; a block is 64 bytes; a word is a number below 2 ^ 32.
use Rattle.std.specs.Prelude.{ℕ, zero, suc, ◌+◌, ◌-◌, ◌*◌, ◌/◌, ◌%◌, ◌^◌, List, [], ◌∷◌, ◌++◌, map, length, take, drop, replicate, bit_and, bit_or, bit_xor, slice_index, slice_index_or}
use Rattle.std.specs.List.{range_with_len}

-- 2.2.2 and 3.2: operations on words
abbrev pub add : ℕ → ℕ → ℕ
add x y = (x + y) % 2 ^ 32

abbrev pub complement : ℕ → ℕ
complement x = 2 ^ 32 - 1 - x

abbrev pub ROTR : ℕ → ℕ → ℕ
ROTR n x = bit_or (x / 2 ^ n) (x * 2 ^ (32 - n) % 2 ^ 32)

abbrev pub SHR : ℕ → ℕ → ℕ
SHR n x = x / 2 ^ n

-- 4.1.2: SHA-256 functions
unfoldable pub Ch : ℕ → ℕ → ℕ → ℕ
Ch x y z = bit_xor (bit_and x y) (bit_and (complement x) z)

unfoldable pub Maj : ℕ → ℕ → ℕ → ℕ
Maj x y z = bit_xor (bit_xor (bit_and x y) (bit_and x z)) (bit_and y z)

unfoldable pub Σ0 : ℕ → ℕ
Σ0 x = bit_xor (bit_xor (ROTR 2 x) (ROTR 13 x)) (ROTR 22 x)

unfoldable pub Σ1 : ℕ → ℕ
Σ1 x = bit_xor (bit_xor (ROTR 6 x) (ROTR 11 x)) (ROTR 25 x)

unfoldable pub σ0 : ℕ → ℕ
σ0 x = bit_xor (bit_xor (ROTR 7 x) (ROTR 18 x)) (SHR 3 x)

unfoldable pub σ1 : ℕ → ℕ
σ1 x = bit_xor (bit_xor (ROTR 17 x) (ROTR 19 x)) (SHR 10 x)

-- 4.2.2: SHA-256 constants
unfoldable pub K : List ℕ
K =
    0x428a2f98 ∷ 0x71374491 ∷ 0xb5c0fbcf ∷ 0xe9b5dba5 ∷
    0x3956c25b ∷ 0x59f111f1 ∷ 0x923f82a4 ∷ 0xab1c5ed5 ∷
    0xd807aa98 ∷ 0x12835b01 ∷ 0x243185be ∷ 0x550c7dc3 ∷
    0x72be5d74 ∷ 0x80deb1fe ∷ 0x9bdc06a7 ∷ 0xc19bf174 ∷
    0xe49b69c1 ∷ 0xefbe4786 ∷ 0x0fc19dc6 ∷ 0x240ca1cc ∷
    0x2de92c6f ∷ 0x4a7484aa ∷ 0x5cb0a9dc ∷ 0x76f988da ∷
    0x983e5152 ∷ 0xa831c66d ∷ 0xb00327c8 ∷ 0xbf597fc7 ∷
    0xc6e00bf3 ∷ 0xd5a79147 ∷ 0x06ca6351 ∷ 0x14292967 ∷
    0x27b70a85 ∷ 0x2e1b2138 ∷ 0x4d2c6dfc ∷ 0x53380d13 ∷
    0x650a7354 ∷ 0x766a0abb ∷ 0x81c2c92e ∷ 0x92722c85 ∷
    0xa2bfe8a1 ∷ 0xa81a664b ∷ 0xc24b8b70 ∷ 0xc76c51a3 ∷
    0xd192e819 ∷ 0xd6990624 ∷ 0xf40e3585 ∷ 0x106aa070 ∷
    0x19a4c116 ∷ 0x1e376c08 ∷ 0x2748774c ∷ 0x34b0bcb5 ∷
    0x391c0cb3 ∷ 0x4ed8aa4a ∷ 0x5b9cca4f ∷ 0x682e6ff3 ∷
    0x748f82ee ∷ 0x78a5636f ∷ 0x84c87814 ∷ 0x8cc70208 ∷
    0x90befffa ∷ 0xa4506ceb ∷ 0xbef9a3f7 ∷ 0xc67178f2 ∷ []

-- 5.1.1: padding. The byte 0x80, zeros up to 8 bytes short of a whole block, and the length in bits as 8 bytes.
-- The length is taken modulo 2 ^ 64, so that every list has a digest.
unfoldable pub zeros : ℕ → ℕ
zeros n = (119 - n % 64) % 64

unfoldable pub bit_length : ℕ → List ℕ
bit_length n = map (λ k. (n * 8 % 2 ^ 64) / 2 ^ (8 * (7 - k)) % 256) (range_with_len 0 8)

unfoldable pub padding : ℕ → List ℕ
padding n = 0x80 ∷ (replicate (zeros n) 0 ++ bit_length n)

abbrev pub padded : List ℕ → List ℕ
padded m = m ++ padding (length m)

-- 5.2.1: parsing. Block i of the padded message, and the 16 words of a block.
abbrev pub block : ℕ → List ℕ → List ℕ
block i p = take 64 (drop (64 * i) p)

unfoldable pub word : List ℕ → ℕ → ℕ
word b j = slice_index b j * 2 ^ 24 + slice_index b (j + 1) * 2 ^ 16 + slice_index b (j + 2) * 2 ^ 8 + slice_index b (j + 3)

unfoldable pub words : List ℕ → List ℕ
words b = map (λ j. word b (4 * j)) (range_with_len 0 16)

-- 5.3.3: initial hash value
unfoldable pub H⁰ : List ℕ
H⁰ = 0x6a09e667 ∷ 0xbb67ae85 ∷ 0x3c6ef372 ∷ 0xa54ff53a ∷ 0x510e527f ∷ 0x9b05688c ∷ 0x1f83d9ab ∷ 0x5be0cd19 ∷ []

-- 6.2.2, step 1: the message schedule of the words M, up to W (t + 15)
unfoldable pub next : ℕ → List ℕ → ℕ
next t W = add (add (add (σ1 (slice_index W (t - 2))) (slice_index W (t - 7))) (σ0 (slice_index W (t - 15)))) (slice_index W (t - 16))

unfoldable pub schedule : ℕ → List ℕ → List ℕ
schedule zero M = M
schedule (suc t) M = let W = schedule t M in W ++ next (t + 16) W ∷ []

-- 6.2.2, steps 2 and 3: the working variables a to h, and rounds 0 to t - 1 over them
unfoldable pub round : ℕ → ℕ → List ℕ → List ℕ
round k w s =
    let a = slice_index_or s 0 0 in
    let b = slice_index_or s 1 0 in
    let c = slice_index_or s 2 0 in
    let d = slice_index_or s 3 0 in
    let e = slice_index_or s 4 0 in
    let f = slice_index_or s 5 0 in
    let g = slice_index_or s 6 0 in
    let h = slice_index_or s 7 0 in
    let T1 = add (add (add (add h (Σ1 e)) (Ch e f g)) k) w in
    let T2 = add (Σ0 a) (Maj a b c) in
    add T1 T2 ∷ a ∷ b ∷ c ∷ add d T1 ∷ e ∷ f ∷ g ∷ []

unfoldable pub rounds : ℕ → List ℕ → List ℕ → List ℕ
rounds zero W s = s
rounds (suc t) W s = round (slice_index K t) (slice_index W t) (rounds t W s)

-- 6.2.2, step 4: the next hash value
unfoldable pub sums : List ℕ → List ℕ → List ℕ
sums x y = map (λ i. add (slice_index x i) (slice_index y i)) (range_with_len 0 8)

unfoldable pub compress : List ℕ → List ℕ → List ℕ
compress H M = sums (rounds 64 (schedule 48 M) H) H

unfoldable pub hashes : ℕ → List ℕ → List ℕ
hashes zero p = H⁰
hashes (suc i) p = compress (hashes i p) (words (block i p))

-- 6.2.2, at the end: the words of the last hash value, each from its highest byte
abbrev pub byte_of : List ℕ → ℕ → ℕ
byte_of H k = slice_index H (k / 4) / 2 ^ (8 * (3 - k % 4)) % 256

unfoldable pub bytes : List ℕ → List ℕ
bytes H = map (byte_of H) (range_with_len 0 32)

unfoldable pub sha256 : List ℕ → List ℕ
sha256 m = bytes (hashes (length (padded m) / 64) (padded m))
