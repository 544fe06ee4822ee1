-- One block goes into the state: the first of the padded message without the blocks before it.
use Rattle.std.proofs.Common.{◌≡◌, ℕ, zero, suc, ◌+◌, ◌-◌, ◌*◌, ◌≤◌, cond, ltb, List, [], ◌∷◌, ◌++◌, map, length, get_or, drop, sym, refl, ap, ◌∙◌, arith, le-ltb}
use Rattle.std.proofs.Math.Nat.{sub-zero}
use Rattle.std.specs.Int.Bits.{bit_xor, xor_zero_r}
use Rattle.std.specs.List.{range_with_len}
use Rattle.sha3.specs.Fips202.{keccak_f, lane, padded, xored, xored_lane}
use Rattle.sha3.proofs.Padding.{padded-drop}
use Rattle.sha3.proofs.Reading.{lane-drop}

-- The lanes behind the block stay.
pub stays : (S P : List ℕ) (k l : ℕ) → 17 ≤ l → get_or S l 0 ≡ xored_lane S P k l
stays S P k l h =
    sym (ap (λ b. bit_xor (get_or S l 0) (cond b (lane P (k + 8 * l)) 0)) (le-ltb l 17 h) ∙ xor_zero_r (get_or S l 0))

xored-drop : (S P : List ℕ) (n : ℕ) → xored S (drop n P) 0 ≡ xored S P n
unfolding xored
xored-drop S P n =
    let e : (l : ℕ) → lane (drop n P) (0 + 8 * l) ≡ lane P (n + 8 * l) =
    λ l. let place : n + (0 + 8 * l) ≡ n + 8 * l = omega arith in lane-drop P n (0 + 8 * l) ∙ ap (lane P) place
    in
    λ i. map (λ l. bit_xor (get_or S l 0) (cond (ltb l 17) (e l i) 0)) (range_with_len 0 25)

pub drop_parts : (n : ℕ) (a b : List ℕ) → drop n (a ++ b) ≡ drop n a ++ drop (n - length a) b
drop_parts zero [] b = refl
drop_parts (suc n) [] b = ap (λ k. drop k b) (sym (sub-zero (suc n)))
drop_parts zero (x ∷ a) b =
    let e : 0 ≡ 0 - suc (length a) = omega arith in ap (λ k. x ∷ a ++ drop k b) e
drop_parts (suc n) (x ∷ a) b =
    let e : n - length a ≡ suc n - suc (length a) = omega arith in drop_parts n a b ∙ ap (λ k. drop n a ++ drop k b) e

-- A block of a message goes in as the first block of what follows the blocks before it.
pub one_block : (M S : List ℕ) (i : ℕ) → 136 * i ≤ length M → keccak_f (xored S (padded (drop (136 * i) M)) 0) ≡ keccak_f (xored S (padded M) (136 * i))
one_block M S i h = ap keccak_f (ap (λ P. xored S P 0) (sym (padded-drop M i h)) ∙ xored-drop S (padded M) (136 * i))
