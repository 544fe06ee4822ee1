-- Each lane (x, y) of a state, x and y being below five.
use Rattle.std.proofs.Common.{◌≡◌, ℕ, zero, suc, ◌+◌, ◌*◌, ◌/◌, ◌%◌, ◌<◌, List, length, get_or, ltb, true, refl, mod-eq_of_lt, ◌^◌, ◌-◌, ap, ◌∙◌, arith}
use Rattle.std.proofs.lemmas.List.FromFn.{fill_by_all}
use Rattle.std.proofs.lemmas.List.Elements.{All-get_or}
use Rattle.std.proofs.lemmas.List.Sums.{AllPass-from_list_all}
use Rattle.std.proofs.lemmas.Bool.{ltb-true}
use Rattle.std.specs.Int.{rotate_left, w64}
use Rattle.std.specs.Int.Bits.{bit_or, or_self}
use Rattle.sha3.specs.Fips202.{at, lanes, offsets, rot}

below_five : (P : ℕ → Type 0) → P 0 → P 1 → P 2 → P 3 → P 4 → (k : ℕ) → k < 5 → P k
below_five P p0 p1 p2 p3 p4 zero low = p0
below_five P p0 p1 p2 p3 p4 (suc zero) low = p1
below_five P p0 p1 p2 p3 p4 (suc (suc zero)) low = p2
below_five P p0 p1 p2 p3 p4 (suc (suc (suc zero))) low = p3
below_five P p0 p1 p2 p3 p4 (suc (suc (suc (suc zero)))) low = p4
below_five P p0 p1 p2 p3 p4 (suc (suc (suc (suc (suc k))))) low = absurd (omega arith)

pub all_lanes :
    (P : ℕ → ℕ → ℕ → Type 0) (A : List ℕ)
    → P 0 0 (at A 0 0) → P 1 0 (at A 1 0) → P 2 0 (at A 2 0) → P 3 0 (at A 3 0) → P 4 0 (at A 4 0)
    → P 0 1 (at A 0 1) → P 1 1 (at A 1 1) → P 2 1 (at A 2 1) → P 3 1 (at A 3 1) → P 4 1 (at A 4 1)
    → P 0 2 (at A 0 2) → P 1 2 (at A 1 2) → P 2 2 (at A 2 2) → P 3 2 (at A 3 2) → P 4 2 (at A 4 2)
    → P 0 3 (at A 0 3) → P 1 3 (at A 1 3) → P 2 3 (at A 2 3) → P 3 3 (at A 3 3) → P 4 3 (at A 4 3)
    → P 0 4 (at A 0 4) → P 1 4 (at A 1 4) → P 2 4 (at A 2 4) → P 3 4 (at A 3 4) → P 4 4 (at A 4 4)
    → (x y : ℕ) → x < 5 → y < 5 → P x y (at A x y)
all_lanes P A p00 p10 p20 p30 p40 p01 p11 p21 p31 p41 p02 p12 p22 p32 p42 p03 p13 p23 p33 p43 p04 p14 p24 p34 p44 x y low high =
    let row : (y : ℕ) → P 0 y (at A 0 y) → P 1 y (at A 1 y) → P 2 y (at A 2 y) → P 3 y (at A 3 y) → P 4 y (at A 4 y) → P x y (at A x y) =
    λ y p0 p1 p2 p3 p4. below_five (λ x. P x y (at A x y)) p0 p1 p2 p3 p4 x low
    in
    below_five (λ y. P x y (at A x y))
    (row 0 p00 p10 p20 p30 p40)
    (row 1 p01 p11 p21 p31 p41)
    (row 2 p02 p12 p22 p32 p42)
    (row 3 p03 p13 p23 p33 p43)
    (row 4 p04 p14 p24 p34 p44)
    y high

pub lanes_from : (lane : ℕ → ℕ → ℕ) (A : List ℕ) → length A ≡ 25 → ((x y : ℕ) → x < 5 → y < 5 → at A x y ≡ lane x y) → A ≡ lanes lane
lanes_from lane A long each =
    fill_by_all (λ l. lane (l % 5) (l / 5)) A 25 0 long
    (λ l low.
    let place : l ≡ l % 5 + 5 * (l / 5) = omega arith in
    ap (λ p. get_or A p 0) place ∙ each (l % 5) (l / 5) (omega arith) (omega arith))

-- A turn by less than 64, as `rotate_left` computes it.
pub turned : (lane n : ℕ) → lane < 2 ^ 64 → n < 64 → rotate_left w64 lane n ≡ rot lane n
turned lane zero small low =
    let m : lane * 1 % 2 ^ 64 ≡ lane = mod-eq_of_lt (omega arith) ∙ omega arith in
    ap (λ k. bit_or k (lane / 1)) m ∙ ap (bit_or lane) (omega arith) ∙ or_self lane
turned lane (suc n) small low =
    let e : suc n % 64 ≡ suc n = mod-eq_of_lt low in
    let f : (64 - suc n) % 64 ≡ 64 - suc n = mod-eq_of_lt (omega arith) in
    simp (e, f)

pub offset_low : (x y : ℕ) → x < 5 → y < 5 → at offsets x y < 64
unfolding offsets
offset_low x y low high =
    let place : x + 5 * y < 25 = omega arith in
    let all = AllPass-from_list_all (λ n. ltb n 64) offsets refl in
    ltb-true _ 64 (All-get_or (λ n. ltb n 64 ≡ true) offsets (x + 5 * y) 0 place all)
