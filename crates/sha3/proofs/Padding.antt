-- What the padding puts behind a message: the bytes of §B.2, and the same bytes behind the message without its first blocks.
use Rattle.std.proofs.Common.{◌≡◌, ℕ, ◌+◌, ◌-◌, ◌*◌, ◌/◌, ◌%◌, ◌<◌, ◌≤◌, List, [], ◌∷◌, ◌++◌, length, get_or, drop, replicate, sym, refl, ap, ◌∙◌, mod-eq_of_lt, arith, length-append, length-drop}
use Rattle.std.proofs.Math.Nat.{add-mul-mod_self_left}
use Rattle.std.proofs.lemmas.List.{length-replicate, get_or-replicate}
use Rattle.std.proofs.lemmas.List.FromFn.{get_or-map-range_with_len, length-map-range_with_len}
use Rattle.std.proofs.lemmas.List.{get_or_append_left, get_or-append_right, get_or_at, drop-append-le}
use Rattle.sha3.specs.Fips202.{byte, bytes, padded}

-- The bits 01 || 1 0 .. 0 1, with j bits 0.
abbrev bits : ℕ → List ℕ
bits j = 0 ∷ 1 ∷ 1 ∷ (replicate j 0 ++ 1 ∷ [])

zeros : ℕ → ℕ
zeros n = (1088 - (8 * n + 2 + 2) % 1088) % 1088

length_bits : (j : ℕ) → length (bits j) ≡ j + 4
length_bits j = omega (arith, length-append {A = ℕ} (replicate j 0) (1 ∷ []), length-replicate {A = ℕ} j 0)

bit_zero : (j p : ℕ) → 3 ≤ p → p < j + 3 → get_or (bits j) p 0 ≡ 0
bit_zero j p low high =
    get_or-append_right (0 ∷ 1 ∷ 1 ∷ []) (replicate j 0 ++ 1 ∷ []) 3 p 0 refl low
    ∙ get_or_append_left (replicate j 0) (1 ∷ []) 0 (p - 3) (simp length-replicate (omega arith))
    ∙ get_or-replicate j (p - 3) 0 0 (omega arith)

bit_one : (j p : ℕ) → p ≡ j + 3 → get_or (bits j) p 0 ≡ 1
bit_one j p e =
    get_or-append_right (0 ∷ 1 ∷ 1 ∷ []) (replicate j 0 ++ 1 ∷ []) 3 p 0 refl (omega arith)
    ∙ get_or_at (replicate j 0) 1 [] 0 (p - 3) (simp length-replicate (omega arith))

-- The bytes of the padding: 8 m + 4 zeros stand between its first three bits and its last.
byte_first : (j : ℕ) → 12 ≤ j → byte (bits j) 0 ≡ 6
byte_first j h =
    let e3 = bit_zero j 3 (omega arith) (omega arith) in
    let e4 = bit_zero j 4 (omega arith) (omega arith) in
    let e5 = bit_zero j 5 (omega arith) (omega arith) in
    let e6 = bit_zero j 6 (omega arith) (omega arith) in
    let e7 = bit_zero j 7 (omega arith) (omega arith) in
    omega arith

byte_high : (j q : ℕ) → 1 ≤ q → 8 * q + 6 < j + 3 → byte (bits j) q ≡ get_or (bits j) (8 * q + 7) 0 * 128
byte_high j q low high =
    let e0 = bit_zero j (8 * q) (omega arith) (omega arith) in
    let e1 = bit_zero j (8 * q + 1) (omega arith) (omega arith) in
    let e2 = bit_zero j (8 * q + 2) (omega arith) (omega arith) in
    let e3 = bit_zero j (8 * q + 3) (omega arith) (omega arith) in
    let e4 = bit_zero j (8 * q + 4) (omega arith) (omega arith) in
    let e5 = bit_zero j (8 * q + 5) (omega arith) (omega arith) in
    let e6 = bit_zero j (8 * q + 6) (omega arith) (omega arith) in
    omega arith

byte_middle : (j q : ℕ) → 1 ≤ q → 8 * q + 7 < j + 3 → byte (bits j) q ≡ 0
byte_middle j q low high =
    byte_high j q low (omega arith) ∙ ap (λ b. b * 128) (bit_zero j (8 * q + 7) (omega arith) (omega arith))

byte_last : (j q : ℕ) → 1 ≤ q → 8 * q + 7 ≡ j + 3 → byte (bits j) q ≡ 128
byte_last j q low e =
    byte_high j q low (omega arith) ∙ ap (λ b. b * 128) (bit_one j (8 * q + 7) (omega arith))

-- A message of n bytes in its last block has 8 (135 - n) + 4 zeros in its padding.
zeros_short : (n : ℕ) → n < 136 → zeros n ≡ 1084 - 8 * n
unfolding zeros
zeros_short n h =
    let e : (8 * n + 2 + 2) % 1088 ≡ 8 * n + 2 + 2 = mod-eq_of_lt (omega arith) in
    let f : (1088 - (8 * n + 2 + 2)) % 1088 ≡ 1088 - (8 * n + 2 + 2) = mod-eq_of_lt (omega arith) in
    ap (λ k. (1088 - k) % 1088) e ∙ f ∙ omega arith

-- Byte k of a padded message that ends at or before it, in the first block.
behind : (M : List ℕ) (k : ℕ) → length M ≤ k → k < 136 → get_or (padded M) k 0 ≡ byte (bits (1084 - 8 * length M)) (k - length M)
unfolding padded zeros
behind M k low high =
    let j = zeros_short (length M) (omega arith) in
    let long = length_bits (1084 - 8 * length M) in
    let many : length (bits (1084 - 8 * length M)) / 8 ≡ 136 - length M = rw long (omega arith) in
    let within : k - length M < length (bits (1084 - 8 * length M)) / 8 = omega arith in
    get_or-append_right M (bytes (bits (zeros (length M)))) (length M) k 0 refl low
    ∙ ap (λ n. get_or (bytes (bits n)) (k - length M) 0) j
    ∙ get_or-map-range_with_len (byte (bits (1084 - 8 * length M))) 0 (length (bits (1084 - 8 * length M)) / 8) (k - length M) (k - length M) 0 within (omega arith)

pub both : (M : List ℕ) (k : ℕ) → length M ≡ k → k ≡ 135 → get_or (padded M) k 0 ≡ 134
both M k first last =
    behind M k (omega arith) (omega arith)
    ∙ let j : 1084 - 8 * length M ≡ 4 = omega arith in
    let q : k - length M ≡ 0 = omega arith in
    rw (j, q)

pub first : (M : List ℕ) (k : ℕ) → length M ≡ k → k < 135 → get_or (padded M) k 0 ≡ 6
first M k here low =
    behind M k (omega arith) (omega arith)
    ∙ let q : k - length M ≡ 0 = omega arith in
    rw q (byte_first (1084 - 8 * length M) (omega arith))

pub middle : (M : List ℕ) (k : ℕ) → length M < k → k < 135 → get_or (padded M) k 0 ≡ 0
middle M k low high =
    behind M k (omega arith) (omega arith) ∙ byte_middle (1084 - 8 * length M) (k - length M) (omega arith) (omega arith)

pub last : (M : List ℕ) (k : ℕ) → length M < k → k ≡ 135 → get_or (padded M) k 0 ≡ 128
last M k low here =
    behind M k (omega arith) (omega arith) ∙ byte_last (1084 - 8 * length M) (k - length M) (omega arith) (omega arith)

-- The padding of a message is that of the message without its first i blocks.
zeros_on : (n i : ℕ) → zeros (136 * i + n) ≡ zeros n
unfolding zeros
zeros_on n i =
    let e : 8 * (136 * i + n) + 2 + 2 ≡ (8 * n + 2 + 2) + 1088 * i = omega arith in
    ap (λ k. (1088 - k % 1088) % 1088) e ∙ ap (λ k. (1088 - k) % 1088) (add-mul-mod_self_left (8 * n + 2 + 2) 1088 i)

pub padded-drop : (M : List ℕ) (i : ℕ) → 136 * i ≤ length M → drop (136 * i) (padded M) ≡ padded (drop (136 * i) M)
unfolding padded zeros
padded-drop M i h =
    let n : 136 * i + length (drop (136 * i) M) ≡ length M = omega (arith, length-drop (136 * i) M) in
    let e : zeros (length M) ≡ zeros (length (drop (136 * i) M)) = ap zeros (sym n) ∙ zeros_on (length (drop (136 * i) M)) i in
    drop-append-le (136 * i) M (bytes (bits (zeros (length M)))) h
    ∙ ap (λ k. drop (136 * i) M ++ bytes (bits k)) e

-- A padded message is whole blocks, one more than those that the message fills.
pub blocks : (M : List ℕ) → length (padded M) / 136 ≡ length M / 136 + 1
unfolding padded zeros
blocks M =
    let n : length M ≡ 136 * (length M / 136) + length M % 136 = omega arith in
    let e : zeros (length M) ≡ 1084 - 8 * (length M % 136) =
    ap zeros n ∙ zeros_on (length M % 136) (length M / 136) ∙ zeros_short (length M % 136) (omega arith)
    in
    let tail = length-map-range_with_len (byte (bits (zeros (length M)))) 0 (length (bits (zeros (length M))) / 8) in
    let all = length-append M (bytes (bits (zeros (length M)))) in
    let long = length_bits (zeros (length M)) in
    omega arith
