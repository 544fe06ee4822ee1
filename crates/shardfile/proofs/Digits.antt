-- The digits of a byte, and one more byte read. Assumes nothing.
use Rattle.std.proofs.Common.{◌≡◌, ℕ, zero, suc, ◌+◌, ◌*◌, ◌<◌, List, [], ◌∷◌, length, ◌/◌, get_or, drop, Option, Some, refl, sym, ap, ◌∙◌, arith, below_more}
use Rattle.std.specs.Simd.{first_chunks}
use Rattle.std.proofs.lemmas.List.{get_or-drop}
use Rattle.shardfile.specs.Hex.{Reads, byte_of, digit_of}

-- the pair at an index is the two bytes there
pair_high : (n i : ℕ) (word d : List ℕ) → i < n → get_or (get_or (first_chunks 2 n word) i d) 0 0 ≡ get_or word (2 * i) 0
pair_high zero i word d h = absurd (omega arith)
pair_high (suc n) zero [] d h = refl
pair_high (suc n) zero (x ∷ word) d h = refl
pair_high (suc n) (suc i) word d h =
    pair_high n i (drop 2 word) d (omega arith) ∙ grind (arith, get_or-drop)

pair_low : (n i : ℕ) (word d : List ℕ) → i < n → get_or (get_or (first_chunks 2 n word) i d) 1 0 ≡ get_or word (2 * i + 1) 0
pair_low zero i word d h = absurd (omega arith)
pair_low (suc n) zero [] d h = refl
pair_low (suc n) zero (x ∷ []) d h = refl
pair_low (suc n) zero (x ∷ y ∷ word) d h = refl
pair_low (suc n) (suc i) word d h =
    pair_low n i (drop 2 word) d (omega arith) ∙ grind (arith, get_or-drop)

pub pair_read : (word : List ℕ) (pairs : List (List ℕ)) (i : ℕ) (r : Option ℕ) (b : ℕ) → pairs ≡ first_chunks 2 (length word / 2) word → length pairs ≡ length word / 2 → i < length pairs → r ≡ byte_of (digit_of (get_or (get_or pairs i []) 0 0)) (digit_of (get_or (get_or pairs i []) 1 0)) → r ≡ Some b → Some b ≡ byte_of (digit_of (get_or word (2 * i) 0)) (digit_of (get_or word (2 * i + 1) 0))
pair_read word pairs i r b front many below is some =
    let n : i < length word / 2 = omega arith in
    let high : get_or (get_or pairs i []) 0 0 ≡ get_or word (2 * i) 0 =
    ap (λ (ps : List (List ℕ)). get_or (get_or ps i []) 0 0) front ∙ pair_high (length word / 2) i word [] n in
    let low : get_or (get_or pairs i []) 1 0 ≡ get_or word (2 * i + 1) 0 =
    ap (λ (ps : List (List ℕ)). get_or (get_or ps i []) 1 0) front ∙ pair_low (length word / 2) i word [] n in
    sym some
    ∙ is
    ∙ ap (λ (c : ℕ). byte_of (digit_of c) (digit_of (get_or (get_or pairs i []) 1 0))) high
    ∙ ap (λ (c : ℕ). byte_of (digit_of (get_or word (2 * i) 0)) (digit_of c)) low

pub reads_more : (old : List ℕ) (from : ℕ) (word : List ℕ) (i : ℕ) (out : List ℕ) (len : ℕ) (next : List ℕ) (longer b : ℕ) → Reads old from word i out len → longer ≡ len + 1 → ((k : ℕ) → k < len → get_or next k 0 ≡ get_or out k 0) → get_or next len 0 ≡ b → Some b ≡ byte_of (digit_of (get_or word (2 * i) 0)) (digit_of (get_or word (2 * i + 1) 0)) → Reads old from word (i + 1) next longer
reads_more old from word i out len next longer b r l stays last is =
    record {
      long = omega (arith, r.long);
      front = λ k h. let n : k < len = omega (arith, r.long) in stays k n ∙ r.front k h;
      new = below_more _ _
          (λ k h. let n : from + k < len = omega (arith, r.long) in ap (λ (x : ℕ). Some x) (stays (from + k) n) ∙ r.new k h)
          (ap (λ (x : ℕ). Some (get_or next x 0)) (sym r.long) ∙ ap (λ (x : ℕ). Some x) last ∙ is);
    }
