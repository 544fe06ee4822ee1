-- SHA3-256 as FIPS 202 defines it, in the standard's names and order.
use Rattle.std.specs.Prelude.{ℕ, zero, suc, ◌+◌, ◌-◌, ◌*◌, ◌/◌, ◌%◌, ◌^◌, cond, List, [], ◌∷◌, ◌++◌, map, length, replicate, bit_and, bit_or, bit_xor, nat_lt, slice_index, slice_index_or, slice_set}
use Rattle.std.specs.List.{range_with_len}

infixl 55 ◌⊕◌
abbrev pub ◌⊕◌ : ℕ → ℕ → ℕ
a ⊕ b = bit_xor a b

-- §3.1: the state A is 25 lanes of 64 bits. Lane (x, y) is a number, its bit z worth 2 ^ z, and stands at x + 5 y.
abbrev pub at : List ℕ → ℕ → ℕ → ℕ
at A x y = slice_index A (x + 5 * y)

abbrev pub lanes : (ℕ → ℕ → ℕ) → List ℕ
lanes A' = map (λ l. A' (l % 5) (l / 5)) (range_with_len 0 25)

-- Bit z of a lane goes to bit (z + n) mod 64, for n < 64.
abbrev pub rot : ℕ → ℕ → ℕ
rot lane zero = lane
rot lane (suc n) = bit_or ((lane * 2 ^ suc n) % 2 ^ 64) (lane / 2 ^ (64 - suc n))

-- §3.2.1
abbrev pub C : List ℕ → ℕ → ℕ
C A x = at A x 0 ⊕ at A x 1 ⊕ at A x 2 ⊕ at A x 3 ⊕ at A x 4

abbrev pub D : List ℕ → ℕ → ℕ
D A x = C A ((x + 4) % 5) ⊕ rot (C A ((x + 1) % 5)) 1

unfoldable pub θ : List ℕ → List ℕ
θ A = lanes (λ x y. at A x y ⊕ D A x)

-- §3.2.2: lane (0, 0) stays. From (1, 0) on, for t = 0 .. 23, lane (x, y) turns by (t + 1)(t + 2) / 2, and (y, 2 x + 3 y) is next.
abbrev pub offsets_from : ℕ → ℕ → ℕ → ℕ → List ℕ → List ℕ
offsets_from zero t x y found = found
offsets_from (suc left) t x y found =
    offsets_from left (t + 1) y ((2 * x + 3 * y) % 5) (slice_set found (x + 5 * y) ((t + 1) * (t + 2) / 2 % 64))

unfoldable pub offsets : List ℕ
offsets = offsets_from 24 0 1 0 (replicate 25 0)

unfoldable pub ρ : List ℕ → List ℕ
ρ A = lanes (λ x y. rot (at A x y) (at offsets x y))

-- §3.2.3
unfoldable pub π : List ℕ → List ℕ
π A = lanes (λ x y. at A ((x + 3 * y) % 5) x)

-- §3.2.4: a bit ⊕ 1 is its complement.
unfoldable pub χ : List ℕ → List ℕ
χ A = lanes (λ x y. at A x y ⊕ bit_and ((2 ^ 64 - 1) - at A ((x + 1) % 5) y) (at A ((x + 2) % 5) y))

-- §3.2.5: the register R of eight bits, a number, its bit i worth 2 ^ i. A step moves each bit one up and adds the new bit 8 to bits 0, 4, 5 and 6.
abbrev pub R_after : ℕ → ℕ → ℕ
R_after zero R = R
R_after (suc t) R = R_after t (R * 2 % 2 ^ 8 ⊕ R / 2 ^ 7 * (2 ^ 0 + 2 ^ 4 + 2 ^ 5 + 2 ^ 6))

abbrev pub rc : ℕ → ℕ
rc t = R_after (t % 255) 1 % 2

-- Bit 2 ^ j - 1 of RC is rc(j + 7 ir), for j = 0 .. 6; its other bits are 0.
abbrev pub RC_from : ℕ → ℕ → ℕ → ℕ
RC_from zero j ir = 0
RC_from (suc left) j ir = rc (j + 7 * ir) * 2 ^ (2 ^ j - 1) + RC_from left (j + 1) ir

unfoldable pub RC : ℕ → ℕ
RC ir = RC_from 7 0 ir

unfoldable pub ι : List ℕ → ℕ → List ℕ
ι A ir = slice_set A 0 (at A 0 0 ⊕ RC ir)

-- §3.3: a round, and the first so many of them.
unfoldable pub Rnd : List ℕ → ℕ → List ℕ
Rnd A ir = ι (χ (π (ρ (θ A)))) ir

unfoldable pub rounds : ℕ → List ℕ → List ℕ
rounds zero A = A
rounds (suc ir) A = Rnd (rounds ir A) ir

-- §3.4: KECCAK-f[1600] is KECCAK-p[1600, 24].
unfoldable pub keccak_f : List ℕ → List ℕ
keccak_f S = rounds 24 S

-- §3.1.2, §B.1: the eight bytes from byte k of a string on, as a lane: the first byte has the lowest bits.
abbrev pub lane : List ℕ → ℕ → ℕ
lane P k =
    slice_index P k
    + slice_index P (k + 1) * 256
    + slice_index P (k + 2) * 65536
    + slice_index P (k + 3) * 16777216
    + slice_index P (k + 4) * 4294967296
    + slice_index P (k + 5) * 1099511627776
    + slice_index P (k + 6) * 281474976710656
    + slice_index P (k + 7) * 72057594037927936

-- §4, step 6: S ⊕ (Pᵢ || 0 .. 0), where block Pᵢ is the r = 1088 bits, 17 lanes, from byte k of P on.
abbrev pub xored_lane : List ℕ → List ℕ → ℕ → ℕ → ℕ
xored_lane S P k l = slice_index_or S l 0 ⊕ cond (nat_lt l 17) (lane P (k + 8 * l)) 0

unfoldable pub xored : List ℕ → List ℕ → ℕ → List ℕ
xored S P k = map (xored_lane S P k) (range_with_len 0 25)

-- §4, steps 5 and 6: the state after the first i blocks of P.
unfoldable pub absorbed : List ℕ → ℕ → List ℕ
absorbed P zero = replicate 25 0
absorbed P (suc i) = keccak_f (xored (absorbed P i) P (136 * i))

-- §4, steps 7 to 10: the first d = 256 bits of the state, as bytes (§B.1); d ≤ r, so that one block is enough.
abbrev pub squeezed_byte : List ℕ → ℕ → ℕ
squeezed_byte S k = slice_index S (k / 8) / 2 ^ (8 * (k % 8)) % 256

unfoldable pub squeezed : List ℕ → List ℕ
squeezed S = map (squeezed_byte S) (range_with_len 0 32)

-- §5.1: 1 || 0 .. 0 || 1 with j = (- m - 2) mod x bits 0, as a list of bits.
abbrev pub pad10*1 : ℕ → ℕ → List ℕ
pad10*1 x m = 1 ∷ (replicate ((x - (m + 2) % x) % x) 0 ++ 1 ∷ [])

-- §B.1: the bytes of a list of bits, the first bit of each worth 1.
abbrev pub byte : List ℕ → ℕ → ℕ
byte bits k =
    slice_index bits (8 * k)
    + slice_index bits (8 * k + 1) * 2
    + slice_index bits (8 * k + 2) * 4
    + slice_index bits (8 * k + 3) * 8
    + slice_index bits (8 * k + 4) * 16
    + slice_index bits (8 * k + 5) * 32
    + slice_index bits (8 * k + 6) * 64
    + slice_index bits (8 * k + 7) * 128

abbrev pub bytes : List ℕ → List ℕ
bytes bits = map (byte bits) (range_with_len 0 (length bits / 8))

-- §4, step 1, at N = M || 01 (§6.1) and r = 1600 - 512 (§5.2): the bytes of N || pad10*1(r, len(N)).
unfoldable pub padded : List ℕ → List ℕ
padded M = M ++ bytes (0 ∷ 1 ∷ pad10*1 1088 (8 * length M + 2))

-- §6.1: SHA3-256(M) = KECCAK[512](M || 01, 256), of a message M of bytes.
unfoldable pub sha3_256 : List ℕ → List ℕ
sha3_256 M = squeezed (absorbed (padded M) (length (padded M) / 136))
