-- Where the bytes and the lanes of a padded message of two parts stand in the parts.
use Rattle.std.proofs.Common.{◌≡◌, ℕ, ◌+◌, ◌-◌, ◌<◌, ◌≤◌, List, [], ◌++◌, length, get_or, take, drop, sym, refl, ap, ◌∙◌, add-zero, arith, length-append}
use Rattle.std.proofs.lemmas.List.{get_or_append_left, get_or-append_right, get_or-drop, get_or_past}
use Rattle.hash.proofs.Places.{array_byte}
use Rattle.sha3.specs.Fips202.{lane, padded}
use Rattle.sha3.proofs.Padding.{middle}

in_message : (M : List ℕ) (k : ℕ) → k < length M → get_or (padded M) k 0 ≡ get_or M k 0
unfolding padded
in_message M k h = get_or_append_left M _ 0 k h

pub in_head : (a b : List ℕ) (k : ℕ) → k < length a → get_or a k 0 ≡ get_or (padded (a ++ b)) k 0
in_head a b k h =
    sym (in_message (a ++ b) k (simp length-append (omega arith)) ∙ get_or_append_left a b 0 k h)

pub in_tail : (a b : List ℕ) (k : ℕ) → length a ≤ k → k - length a < length b → get_or b (k - length a) 0 ≡ get_or (padded (a ++ b)) k 0
in_tail a b k low h =
    sym (in_message (a ++ b) k (simp length-append (omega arith)) ∙ get_or-append_right a b (length a) k 0 refl low)

lane_same : (xs ys : List ℕ) (j k : ℕ) → ((b : ℕ) → b < 8 → get_or xs (j + b) 0 ≡ get_or ys (k + b) 0) → lane xs j ≡ lane ys k
lane_same xs ys j k h =
    let e0 : get_or xs j 0 ≡ get_or ys k 0 = simp add-zero at (h 0 (omega arith)) in
    let e1 = h 1 (omega arith) in
    let e2 = h 2 (omega arith) in
    let e3 = h 3 (omega arith) in
    let e4 = h 4 (omega arith) in
    let e5 = h 5 (omega arith) in
    let e6 = h 6 (omega arith) in
    let e7 = h 7 (omega arith) in
    omega arith

pub lane-head : (a b : List ℕ) (k : ℕ) → k + 8 ≤ length a → lane a k ≡ lane (padded (a ++ b)) k
lane-head a b k h = lane_same a (padded (a ++ b)) k k (λ n low. in_head a b (k + n) (omega arith))

pub lane_tail : (a b : List ℕ) (k : ℕ) → length a ≤ k → k - length a + 8 ≤ length b → lane b (k - length a) ≡ lane (padded (a ++ b)) k
lane_tail a b k low h =
    lane_same b (padded (a ++ b)) (k - length a) k
    (λ n small.
    let e : k - length a + n ≡ (k + n) - length a = omega arith in
    ap (λ p. get_or b p 0) e ∙ in_tail a b (k + n) (omega arith) (omega arith))

pub lane-zero : (M : List ℕ) (k : ℕ) → length M < k → k + 8 < 136 → 0 ≡ lane (padded M) k
lane-zero M k low high =
    sym
    (lane_same (padded M) [] k 0
    (λ n small. middle M (k + n) (omega arith) (omega arith) ∙ sym (get_or_past [] (0 + n) 0 (omega arith))))

pub lane-drop : (P : List ℕ) (n k : ℕ) → lane (drop n P) k ≡ lane P (n + k)
lane-drop P n k =
    lane_same (drop n P) P k (n + k)
    (λ b low.
    let e : n + (k + b) ≡ n + k + b = omega arith in
    get_or-drop n P (k + b) 0 ∙ ap (λ p. get_or P p 0) e)

-- A lane that is read as an array of eight bytes.
pub lane-array : (bytes xs : List ℕ) (k : ℕ) → xs ≡ take 8 (drop k bytes) → lane xs 0 ≡ lane bytes k
lane-array bytes xs k e =
    lane_same xs bytes 0 k
    (λ b low.
    let place : 0 + b ≡ b = omega arith in
    ap (λ p. get_or xs p 0) place ∙ array_byte 8 k b bytes xs e low)
