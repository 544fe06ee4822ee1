-- A loop that moves what passes to the front. Assumes nothing.
use Rattle.std.proofs.Common.{◌≡◌, ℕ, zero, suc, ◌+◌, ◌<◌, ◌≤◌, Bool, true, false, cond, List, [], ◌∷◌, ◌++◌, length, get_or, take, drop, set, sym, refl, ap, ◌∙◌, le_of_suc-le-suc, add-one, arith, length-append, length-set, drop-set-lt}
use Rattle.std.proofs.lemmas.List.{append-nil, drop_more, take_more_set}
use Rattle.reconstruct.specs.Passed.{passed}

-- one more verdict
passed-suc : {X : Type 0} (xs : List X) (vs : List Bool) (i : ℕ) (d : X) → i < length xs → i < length vs → passed (take (suc i) xs) vs ≡ passed (take i xs) vs ++ cond (get_or vs i false) (get_or xs i d ∷ []) []
passed-suc [] vs i d h k = absurd (omega arith)
passed-suc (x ∷ xs) [] i d h k = absurd (omega arith)
passed-suc (x ∷ xs) (true ∷ vs) zero d h k = refl
passed-suc (x ∷ xs) (false ∷ vs) zero d h k = refl
passed-suc (x ∷ xs) (true ∷ vs) (suc i) d h k = ap (λ r. x ∷ r) (passed-suc xs vs i d (le_of_suc-le-suc h) (le_of_suc-le-suc k))
passed-suc (x ∷ xs) (false ∷ vs) (suc i) d h k = passed-suc xs vs i d (le_of_suc-le-suc h) (le_of_suc-le-suc k)

-- ys began as xs: what passed of the first i of xs stands in the first k places of ys, and from i on ys is as it was
pub record Passing {X : Type 0} (xs ys : List X) (vs : List Bool) (k i : ℕ) : Type 0 where
  pub front : take k ys ≡ passed (take i xs) vs
  pub counts : k ≡ length (passed (take i xs) vs)
  pub rest : drop i ys ≡ drop i xs
  pub behind : k ≤ i
  pub within : i ≤ length xs
  pub long : length ys ≡ length xs

module _ {X : Type 0} {xs ys : List X} {vs : List Bool} {k i : ℕ} (p : Passing xs ys vs k i) (h : i < length xs) (n : i < length vs) (d : X) where
  more : passed (take (i + 1) xs) vs ≡ passed (take i xs) vs ++ cond (get_or vs i false) (get_or xs i d ∷ []) []
  more = simp add-one (passed-suc xs vs i d h n)

  here : i < length ys
  here = omega (arith, p.long)

  same_rest : drop (i + 1) ys ≡ drop (i + 1) xs
  same_rest = let a = drop_more xs i d h in let b = drop_more ys i d here in let r = p.rest in cc

  same_item : get_or ys i d ≡ get_or xs i d
  same_item = let a = drop_more xs i d h in let b = drop_more ys i d here in let r = p.rest in cc

  pub passing_no : get_or vs i false ≡ false → Passing xs ys vs k (i + 1)
  passing_no e =
      let all : passed (take (i + 1) xs) vs ≡ passed (take i xs) vs = more ∙ simp (e, append-nil) in
      record {
        front = p.front ∙ sym all;
        counts = p.counts ∙ ap length (sym all);
        rest = same_rest;
        behind = omega (arith, p.behind);
        within = omega arith;
        long = p.long;
      }

  pub passing_yes : get_or vs i false ≡ true → Passing xs (set ys k (get_or ys i d)) vs (k + 1) (i + 1)
  passing_yes e =
      let all : passed (take (i + 1) xs) vs ≡ passed (take i xs) vs ++ get_or ys i d ∷ [] = more ∙ simp (e, same_item) in
      let room : k < length ys = omega (arith, p.behind, here) in
      let low : k < i + 1 = omega (arith, p.behind) in
      record {
        front = take_more_set ys k (get_or ys i d) room ∙ simp (p.front, all);
        counts = simp (all, length-append, ← p.counts);
        rest = drop-set-lt (i + 1) ys k (get_or ys i d) low ∙ same_rest;
        behind = omega (arith, p.behind);
        within = omega arith;
        long = length-set ys k (get_or ys i d) ∙ p.long;
      }
