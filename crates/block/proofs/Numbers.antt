-- Numbers in bytes: what is written is read back, and what is read was written. Assumes nothing.
use Rattle.std.proofs.Common.{◌≡◌, ℕ, zero, suc, ◌+◌, ◌*◌, ◌/◌, ◌%◌, ◌^◌, ◌<◌, ◌≤◌, List, [], ◌∷◌, ◌++◌, length, get_or, take, drop, sym, refl, ap, ◌∙◌, subst, div-lt_iff_lt-mul, pow-suc, div-add-mod', zero-add, add-one, arith, lit<, length-append, length-drop, get_or-drop, take-suc}
use Rattle.std.proofs.Math.Arith.{digits_div, digits_lt, digits_mod}
use Rattle.std.proofs.Math.Seq.{append_snoc, drop-append_seam, get_or_at}
use Rattle.register.specs.Words.{word}
use Rattle.block.specs.Written.{Bytes, number_bytes}

pub length_number : (k n : ℕ) → length (number_bytes k n) ≡ k
unfolding number_bytes
length_number zero n = refl
length_number (suc k) n =
    length-append (number_bytes k (n / 256)) (n % 256 ∷ []) ∙ simp (length_number k (n / 256), add-one)

pub word-drop : (xs : List ℕ) (i k : ℕ) → word xs i k ≡ word (drop i xs) 0 k
word-drop xs i zero = refl
word-drop xs i (suc k) = simp (word-drop xs i k, zero-add, get_or-drop)

-- at the front of a list
word_number : (k n : ℕ) (rest : List ℕ) → n < 256 ^ k → word (number_bytes k n ++ rest) 0 k ≡ n
unfolding number_bytes
word_number zero n rest h = omega arith
word_number (suc k) n rest h =
    let low : n / 256 < 256 ^ k = (div-lt_iff_lt-mul (lit< tt)).1 (subst (λ (m : ℕ). n < m) (pow-suc 256 k) h) in
    let e : number_bytes k (n / 256) ++ n % 256 ∷ [] ++ rest ≡ number_bytes k (n / 256) ++ n % 256 ∷ rest = append_snoc (number_bytes k (n / 256)) (n % 256) rest in
    ap (λ (xs : List ℕ). word xs 0 k * 256 + get_or xs (0 + k) 0) e
    ∙ simp (word_number k (n / 256) (n % 256 ∷ rest) low, zero-add, get_or_at (number_bytes k (n / 256)) (n % 256) rest 0 k (length_number k (n / 256)))
    (div-add-mod' n 256)

-- behind a front
pub word_behind : (front : List ℕ) (k n : ℕ) (rest : List ℕ) → n < 256 ^ k → word (front ++ (number_bytes k n ++ rest)) (length front) k ≡ n
word_behind front k n rest h =
    word-drop (front ++ (number_bytes k n ++ rest)) (length front) k
    ∙ simp drop-append_seam (word_number k n rest h)

pub word_low : (xs : List ℕ) (i k : ℕ) → Bytes xs → word xs i k < 256 ^ k
word_low xs i zero b = lit< tt
word_low xs i (suc k) b =
    subst (λ (m : ℕ). word xs i (suc k) < m) (sym (pow-suc 256 k)) (digits_lt (word_low xs i k b) (b (i + k)))

pub number_word : (xs : List ℕ) (i k : ℕ) → Bytes xs → i + k ≤ length xs → number_bytes k (word xs i k) ≡ take k (drop i xs)
unfolding number_bytes
number_word xs i zero b h = refl
number_word xs i (suc k) b h =
    let more : k < length (drop i xs) = simp length-drop (omega arith) in
    let less : i + k ≤ length xs = omega arith in
    simp (digits_div (word xs i k) (b (i + k)), digits_mod (word xs i k) (b (i + k)), number_word xs i k b less, ← get_or-drop)
    (sym (take-suc (drop i xs) k 0 more))
