-- How what is found tells where an entry is put, and which is taken out.
use Rattle.std.proofs.Common.{◌≡◌, ℕ, ◌<◌, List, [], ◌∷◌, get_or, take, set, Some, None, Ok, Err, Option, Result, Ordering, Less, Equal, Greater, sym, refl, ap, ◌∙◌, subst, get_or-take, MatchResult}
use Rattle.std.proofs.Math.Seq.{take-set-lt}
use Rattle.std.specs.List.{insert, remove}
use Rattle.table.specs.Laws.{Tells, look}
use Rattle.table.specs.Table.{pick, later, found, put, without, changed}

module _ {E : Type 0} (x : E) (xs ys : List E) where
  put_step : (e : E) (o : Ordering) (r : Result ℕ ℕ) → MatchResult r (λ _. ys ≡ xs) (λ i. ys ≡ insert xs i e) → MatchResult (pick o (later r) (Ok 0) (Err 0)) (λ _. pick o (x ∷ ys) (x ∷ xs) (e ∷ x ∷ xs) ≡ x ∷ xs) (λ i. pick o (x ∷ ys) (x ∷ xs) (e ∷ x ∷ xs) ≡ insert (x ∷ xs) i e)
  put_step e Less (Ok i) h = ap (λ z. x ∷ z) h
  put_step e Less (Err i) h = ap (λ z. x ∷ z) h
  put_step e Equal r h = refl
  put_step e Greater r h = refl

  without-step : (o : Ordering) (r : Result ℕ ℕ) → MatchResult r (λ i. ys ≡ remove xs i) (λ _. ys ≡ xs) → MatchResult (pick o (later r) (Ok 0) (Err 0)) (λ i. pick o (x ∷ ys) xs (x ∷ xs) ≡ remove (x ∷ xs) i) (λ _. pick o (x ∷ ys) xs (x ∷ xs) ≡ x ∷ xs)
  without-step Less (Ok i) h = ap (λ z. x ∷ z) h
  without-step Less (Err i) h = ap (λ z. x ∷ z) h
  without-step Equal r h = refl
  without-step Greater r h = refl

  looks_step : (o : Ordering) (r : Result ℕ ℕ) (l : Option E) → MatchResult r (λ i. (d : E) → l ≡ Some (get_or xs i d)) (λ _. l ≡ None) → MatchResult (pick o (later r) (Ok 0) (Err 0)) (λ i. (d : E) → pick o l (Some x) None ≡ Some (get_or (x ∷ xs) i d)) (λ _. pick o l (Some x) None ≡ None)
  looks_step Less (Ok i) l h = h
  looks_step Less (Err i) l h = h
  looks_step Equal r l h = λ d. refl
  looks_step Greater r l h = refl

  changed-step : (f : E → E) (o : Ordering) (r : Result ℕ ℕ) → MatchResult r (λ i. (d : E) → ys ≡ set xs i (f (get_or xs i d))) (λ _. ys ≡ xs) → MatchResult (pick o (later r) (Ok 0) (Err 0)) (λ i. (d : E) → pick o (x ∷ ys) (f x ∷ xs) (x ∷ xs) ≡ set (x ∷ xs) i (f (get_or (x ∷ xs) i d))) (λ _. pick o (x ∷ ys) (f x ∷ xs) (x ∷ xs) ≡ x ∷ xs)
  changed-step f Less (Ok i) h = λ d. ap (λ z. x ∷ z) (h d)
  changed-step f Less (Err i) h = ap (λ z. x ∷ z) h
  changed-step f Equal r h = λ d. refl
  changed-step f Greater r h = refl

module _ {K E : Type 0} (order : K → K → Ordering) (key : E → K) where
  pub put_found : (e : E) (xs : List E) → MatchResult (found order key (key e) xs) (λ _. put order key e xs ≡ xs) (λ i. put order key e xs ≡ insert xs i e)
  put_found e [] = refl
  put_found e (x ∷ xs) =
      put_step x xs (put order key e xs) e (order (key x) (key e)) (found order key (key e) xs) (put_found e xs)

  pub without-found : (k : K) (xs : List E) → MatchResult (found order key k xs) (λ i. without order key k xs ≡ remove xs i) (λ _. without order key k xs ≡ xs)
  without-found k [] = refl
  without-found k (x ∷ xs) =
      without-step x xs (without order key k xs) (order (key x) k) (found order key k xs) (without-found k xs)

  pub put-at : (e : E) (xs : List E) (i : ℕ) → Err i ≡ found order key (key e) xs → put order key e xs ≡ insert xs i e
  put-at e xs i is =
      let P : Result ℕ ℕ → Type 0 = λ r. MatchResult r (λ _. put order key e xs ≡ xs) (λ j. put order key e xs ≡ insert xs j e) in
      subst P (sym is) (put_found e xs)

  pub without_at : (k : K) (xs : List E) (i : ℕ) → Ok i ≡ found order key k xs → without order key k xs ≡ remove xs i
  without_at k xs i is =
      let P : Result ℕ ℕ → Type 0 = λ r. MatchResult r (λ j. without order key k xs ≡ remove xs j) (λ _. without order key k xs ≡ xs) in
      subst P (sym is) (without-found k xs)

  pub found_looks : (k : K) (xs : List E) → Tells order key k xs (found order key k xs)
  found_looks k [] = refl
  found_looks k (x ∷ xs) =
      looks_step x xs xs (order (key x) k) (found order key k xs) (look order key k xs) (found_looks k xs)

  -- the same, at what was found
  pub looks_at : (k : K) (xs : List E) (r : Result ℕ ℕ) → r ≡ found order key k xs → Tells order key k xs r
  looks_at k xs r is =
      subst (Tells order key k xs) (sym is) (found_looks k xs)

  pub changed_found : (f : E → E) (k : K) (xs : List E) → MatchResult (found order key k xs) (λ i. (d : E) → changed order key f k xs ≡ set xs i (f (get_or xs i d))) (λ _. changed order key f k xs ≡ xs)
  changed_found f k [] = refl
  changed_found f k (x ∷ xs) =
      changed-step x xs (changed order key f k xs) f (order (key x) k) (found order key k xs) (changed_found f k xs)

  -- a write into the slice, at the place that was found in its first n
  pub changed_at : (f : E → E) (k : K) (slots : List E) (n i : ℕ) (d : E) → i < n → Ok i ≡ found order key k (take n slots) → take n (set slots i (f (get_or slots i d))) ≡ changed order key f k (take n slots)
  changed_at f k slots n i d h is =
      let xs = take n slots in
      let P : Result ℕ ℕ → Type 0 = λ r. MatchResult r (λ j. (z : E) → changed order key f k xs ≡ set xs j (f (get_or xs j z))) (λ _. changed order key f k xs ≡ xs) in
      take-set-lt n slots i _ h ∙ ap (λ z. set xs i (f z)) (sym (get_or-take n slots i d h)) ∙ sym (subst P (sym is) (changed_found f k xs) d)
