-- Hash values by a fold over the numbers of the blocks.
use Rattle.std.proofs.Common.{◌≡◌, ℕ, zero, suc, ◌+◌, List, sym, ap, ◌∙◌, arith}
use Rattle.std.specs.List.{fold, range_with_len}
use Rattle.sha256.specs.Fips180.{block, compress, hashes, words}

abbrev pub turn : List ℕ → List ℕ → ℕ → List ℕ
turn p h i = compress h (words (block i p))

turned_from : (p : List ℕ) (i n : ℕ) → fold (turn p) (hashes i p) (range_with_len i n) ≡ hashes (i + n) p
unfolding hashes
turned_from p i zero = let e : i ≡ i + 0 = omega arith in ap (λ k. hashes k p) e
turned_from p i (suc n) =
    let on : i + 1 ≡ suc i = omega arith in
    let all : i + 1 + n ≡ i + suc n = omega arith in
    ap (λ k. fold (turn p) (hashes k p) (range_with_len (i + 1) n)) (sym on) ∙ turned_from p (i + 1) n ∙ ap (λ k. hashes k p) all

pub turned : (p : List ℕ) (n : ℕ) → fold (turn p) (hashes 0 p) (range_with_len 0 n) ≡ hashes n p
turned p n = let e : 0 + n ≡ n = omega arith in turned_from p 0 n ∙ ap (λ k. hashes k p) e
