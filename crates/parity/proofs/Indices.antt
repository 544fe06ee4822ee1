-- Distinct indices up to k: there are as many places for them. Assumes nothing.
use Rattle.std.proofs.Common.{◌≡◌, ℕ, ◌+◌, ◌<◌, ◌≤◌, true, false, cond, not, ◌||◌, eqb, List, [], ◌∷◌, length, get_or, count_by, sym, refl, ◌∙◌, subst, ⊎_elim, zero-add, arith, eq-eqb}
use Rattle.std.proofs.lemmas.List.FromFn.{get_or-range_with_len, length-range_with_len}
use Rattle.std.proofs.lemmas.List.Sums.{get_or-le-sum_by, sum_by-cons}
use Rattle.std.proofs.lemmas.Bool.{and_parts, cases_Bool, eqb-true, not-true}
use Rattle.std.specs.List.{range_with_len, AllByRecursion}
use Rattle.parity.specs.Codes.{distinct, has}

pub has_within : (k i : ℕ) (js : List ℕ) → AllByRecursion (λ j. j ≤ k) js → has i js ≡ true → i ≤ k
has_within k i [] a h = let z : ◌≡◌ {A = ℕ} 0 1 = cc in absurd (omega arith)
has_within k i (j ∷ js) (a, rest) h =
    ⊎_elim
    (λ (e : eqb j i ≡ true). omega (arith, eqb-true j i e, a))
    (λ (n : eqb j i ≡ false). has_within k i js rest (simp n at h))
    (cases_Bool (eqb j i))

module _ (j : ℕ) (js : List ℕ) (new : has j js ≡ false) where
  one : (x : ℕ) → cond (eqb j x || has x js) 1 0 ≡ cond (eqb j x) 1 0 + cond (has x js) 1 0
  one x =
      ⊎_elim
      (λ (e : eqb j x ≡ true).
      let n : has x js ≡ false = subst (λ (i : ℕ). has i js ≡ false) (eqb-true j x e) new in
      simp (e, n))
      (λ (n : eqb j x ≡ false). simp n (sym (zero-add (cond (has x js) 1 0))))
      (cases_Bool (eqb j x))

  split : (xs : List ℕ) → count_by (λ i. eqb j i || has i js) xs ≡ count_by (λ i. eqb j i) xs + count_by (λ i. has i js) xs
  split [] = refl
  split (x ∷ xs) =
      let a = sum_by-cons (λ i. cond (eqb j i || has i js) 1 0) x xs in
      let b = sum_by-cons (λ i. cond (eqb j i) 1 0) x xs in
      let c = sum_by-cons (λ i. cond (has i js) 1 0) x xs in
      omega (arith, a, b, c, one x, split xs)

once : (k j : ℕ) → j ≤ k → 1 ≤ count_by (λ i. eqb j i) (range_with_len 0 (k + 1))
once k j h =
    let l : j < k + 1 = omega arith in
    let n : j < length (range_with_len 0 (k + 1)) = simp length-range_with_len l in
    let at : get_or (range_with_len 0 (k + 1)) j 0 ≡ j = get_or-range_with_len 0 (k + 1) j 0 l ∙ zero-add j in
    let e : ◌≡◌ {A = ℕ} (cond (eqb j (get_or (range_with_len 0 (k + 1)) j 0)) 1 0) 1 = simp (at, eq-eqb j j refl) in
    omega (arith, e, get_or-le-sum_by (λ i. cond (eqb j i) 1 0) (range_with_len 0 (k + 1)) j 0 n)

pub as_many : (k : ℕ) (js : List ℕ) → distinct js ≡ true → AllByRecursion (λ j. j ≤ k) js → length js ≤ count_by (λ i. has i js) (range_with_len 0 (k + 1))
as_many k [] d a = omega arith
as_many k (j ∷ js) d (a, rest) =
    let ds = and_parts (not (has j js)) (distinct js) d in
    let s = split j js (not-true (has j js) ds.0) (range_with_len 0 (k + 1)) in
    omega (arith, s, once k j a, as_many k js ds.1 rest)
