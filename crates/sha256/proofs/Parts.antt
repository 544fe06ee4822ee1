-- The padded message as three parts, and what a block of it is.
use Rattle.std.proofs.Common.{◌≡◌, ℕ, ◌+◌, ◌-◌, ◌*◌, ◌/◌, ◌%◌, ◌^◌, ◌<◌, ◌≤◌, min, List, [], ◌∷◌, ◌++◌, length, take, drop, replicate, sym, refl, ap, ◌∙◌, ⊎_elim, add-one, div-one, arith}
use Rattle.std.proofs.Math.Seq.{paste, drop-append-add, take-append-add}
use Rattle.std.proofs.lemmas.Bool.{cases_lt}
use Rattle.std.proofs.lemmas.List.{append_assoc, length-take-le, take-take, drop_all, drop-append-le, length-append, length-drop, length-replicate, take_all, take-append-le, take-replicate}
use Rattle.std.proofs.lemmas.List.Edits.{take-paste}
use Rattle.std.proofs.lemmas.Nat.{mod_below}
use Rattle.std.proofs.lemmas.Slice.{take-put_mid}
use borrow.Rule.Slice.PartMut.{put_mid}
use Rattle.sha256.specs.Fips180.{bit_length, bytes, hashes, padding, sha256, zeros}

-- the length field is what the bytes of a 64-bit number are, from the highest
pub field_is : (n : ℕ) {f : List ℕ} → (let x = n * 8 % 2 ^ 64 in
    f ≡ (x / 72057594037927936 % 256) ∷ (x / 281474976710656 % 256) ∷ (x / 1099511627776 % 256) ∷ (x / 4294967296 % 256) ∷ (x / 16777216 % 256) ∷ (x / 65536 % 256) ∷ (x / 256 % 256) ∷ (x % 256) ∷ [])
    → f ≡ bit_length n
unfolding bit_length
field_is n e = simp div-one e

length_field : (n : ℕ) → length (bit_length n) ≡ 8
unfolding bit_length
length_field n = refl

pub length-padding : (n : ℕ) → length (padding n) ≡ zeros n + 9
unfolding padding
length-padding n =
    let l = length-append (replicate (zeros n) 0) (bit_length n) in
    let z = length-replicate {A = ℕ} (zeros n) 0 in
    let f = length_field n in
    omega arith

zeros-below : (n : ℕ) → zeros n < 64
unfolding zeros
zeros-below n = mod_below (119 - n % 64) 64 (omega arith)

abbrev start : List ℕ
start = 0x80 ∷ replicate 71 0

front_is : (z : ℕ) → z ≤ 71 → take (z + 1) start ≡ 0x80 ∷ replicate z 0
front_is z h = simp add-one (ap (λ (t : List ℕ). 0x80 ∷ t) (take-replicate {X = ℕ} z 71 0 h))

pub padding_is : (n : ℕ) {f : List ℕ} → f ≡ bit_length n → take (zeros n + 9) (paste start (zeros n + 1) f 8) ≡ padding n
unfolding padding
padding_is n {f} e =
    let below = zeros-below n in
    let at : zeros n + 9 ≡ zeros n + 1 + 8 = omega arith in
    let long : length f ≡ 8 = ap length e ∙ length_field n in
    let whole = take_all 8 f (omega arith) in
    ap (λ k. take k (paste start (zeros n + 1) f 8)) at ∙ take-paste start (zeros n + 1) f 8 (omega arith) (omega arith)
    ∙ ap (λ x. x ++ take 8 f) (front_is (zeros n) (omega arith))
    ∙ ap (λ (x : List ℕ). 0x80 ∷ (replicate (zeros n) 0 ++ x)) (whole ∙ e)

-- what fits of y after x in a buffer of N bytes
pub append_is : (N : ℕ) (x y : List ℕ) (n : ℕ) → n ≡ min (length y) (N - length x) → length x ≤ N → x ++ take n y ≡ take N (x ++ y)
append_is N x y n e h =
    let all : length x + (N - length x) ≡ N = omega arith in
    let whole = take-append-add x y (N - length x) in
    ap (λ t. x ++ t) (same n e) ∙ sym (simp all at whole)
  where
    same : (k : ℕ) → k ≡ min (length y) (N - length x) → take k y ≡ take (N - length x) y
    same k p =
        ⊎_elim
        (λ less. ap (λ i. take i y) (omega arith))
        (λ more. take_all k y (omega arith) ∙ sym (take_all (N - length x) y (omega arith)))
        (cases_lt (N - length x) (length y))

drop-append : (n : ℕ) (x y : List ℕ) → drop n (x ++ y) ≡ drop n x ++ drop (n - length x) y
drop-append n x y =
    ⊎_elim
    (λ inside.
    let none : n - length x ≡ 0 = omega arith in
    drop-append-le n x y (omega arith) ∙ ap (λ i. drop n x ++ drop i y) (sym none))
    (λ past.
    let at : length x + (n - length x) ≡ n = omega arith in
    simp at at (drop-append-add x y (n - length x)) ∙ ap (λ t. t ++ drop (n - length x) y) (sym (drop_all n x past)))
    (cases_lt n (length x))

take-front : (x y : List ℕ) → take 64 (take 64 x ++ y) ≡ take 64 (x ++ y)
take-front x y =
    ⊎_elim
    (λ short. ap (λ t. take 64 (t ++ y)) (take_all 64 x (omega arith)))
    (λ long.
    let full = length-take-le 64 x long in
    take-append-le 64 (take 64 x) y (omega arith) ∙ take-take 64 64 x (omega arith) ∙ sym (take-append-le 64 x y long))
    (cases_lt (length x) 64)

-- a block that lies in the front of a list, or behind its front
pub block-front : (at : ℕ) (a b : List ℕ) → at + 64 ≤ length a → take 64 (drop at a) ≡ take 64 (drop at (a ++ b))
block-front at a b h =
    let long = length-drop at a in
    sym (ap (take 64) (drop-append-le at a b (omega arith)) ∙ take-append-le 64 (drop at a) b (omega arith))

pub block_behind : (at : ℕ) (a b : List ℕ) → length a ≤ at → take 64 (drop (at - length a) b) ≡ take 64 (drop at (a ++ b))
block_behind at a b h =
    sym (ap (take 64) (drop-append at a b ∙ ap (λ t. t ++ drop (at - length a) b) (drop_all at a h)))

-- a block gathered from three parts
pub gathered : (at : ℕ) (a b c : List ℕ)
    → take 64 (take 64 (take 64 (drop at a) ++ drop (at - length a) b) ++ drop (at - (length a + length b)) c)
    ≡ take 64 (drop at (a ++ (b ++ c)))
gathered at a b c =
    let x = drop at a in
    let y = drop (at - length a) b in
    let z = drop (at - (length a + length b)) c in
    let rest : at - length a - length b ≡ at - (length a + length b) = omega arith in
    let inner = simp rest at (drop-append (at - length a) b c) in
    ap (λ t. take 64 (t ++ z)) (take-front x y) ∙ take-front (x ++ y) z ∙ ap (take 64) (append_assoc x y z)
    ∙ ap (take 64) (sym (drop-append at a (b ++ c) ∙ ap (λ t. x ++ t) inner))

pub block_long : (i : ℕ) (p : List ℕ) {x s : List ℕ} → i < length p / 64 → x ≡ take 64 (drop (64 * i) p) → s ≡ x → length s ≡ 64
block_long i p {x} {s} inside x-is s-is =
    let left = length-drop (64 * i) p in
    ap length (s-is ∙ x-is) ∙ length-take-le 64 (drop (64 * i) p) (omega arith)

-- what `append` leaves
pub appended : (N : ℕ) (xs part mid : List ℕ) (filled n : ℕ) → length xs ≡ N → filled ≤ N → n ≡ min (length part) (N - filled)
    → mid ≡ take n part
    → take (filled + n) (put_mid filled (filled + n - filled) xs mid) ≡ take N (take filled xs ++ part)
appended N xs part mid filled n long h e mid-is =
    let front = length-take-le filled xs (omega arith) in
    let size = length-take-le n part (omega arith) in
    let same : length mid ≡ n = ap length mid-is ∙ size in
    take-put_mid filled (filled + n - filled) xs mid (filled + n) (omega arith) (omega arith)
    ∙ ap (λ t. take filled xs ++ t) mid-is
    ∙ append_is N (take filled xs) part n (omega arith) (omega arith)

-- what three calls of `append` leave in a buffer of a block
pub gather_is : (at : ℕ) (a b c : List ℕ) {x₁ x₂ x₃ r₁ r₂ r₃ : List ℕ} {p q : ℕ}
    → r₁ ≡ drop at a → x₁ ≡ take 64 r₁
    → p ≡ at - length a → r₂ ≡ drop p b → x₂ ≡ take 64 (x₁ ++ r₂)
    → q ≡ at - (length a + length b) → r₃ ≡ drop q c → x₃ ≡ take 64 (x₂ ++ r₃)
    → x₃ ≡ take 64 (drop at (a ++ (b ++ c)))
gather_is at a b c r₁-is x₁-is p-is r₂-is x₂-is q-is r₃-is x₃-is =
    let parts = gathered at a b c in
    cc

-- the padded message as parts
pub sha256_is : (a b c : List ℕ) → c ≡ padding (length a + length b)
    → bytes (hashes (length (a ++ (b ++ c)) / 64) (a ++ (b ++ c))) ≡ sha256 (a ++ b)
unfolding sha256
sha256_is a b c e =
    let n = length-append a b in
    let same : c ≡ padding (length (a ++ b)) = cc in
    let joined = append_assoc a b c in
    cc
