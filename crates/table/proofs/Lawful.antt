-- The laws of a table.
use Rattle.std.proofs.Common.{◌≡◌, ℕ, zero, suc, ◌<◌, List, [], ◌∷◌, length, get_or, Some, None, Ordering, Less, Equal, sym, refl, ap, ◌∙◌, le_of_suc-le-suc, not-suc-le-zero}
use Rattle.std.proofs.lemmas.List.Elements.{All-from_recursion, recursion_from_All}
use Rattle.std.specs.Cmp.{IsTotalOrder, tied_itself}
use Rattle.std.specs.Option.{option_map}
use Rattle.std.specs.List.{AllByRecursion}
use Rattle.table.specs.Laws.{Ascends, look, Differ, Laws, FoundExactly}
use Rattle.table.specs.Table.{pick, put, without, changed}
use Rattle.table.proofs.Carried.{all_changed, all_put, all_weaker, all_without, look_equal}
use Rattle.table.proofs.Orders.{by_order, above, below}
use Rattle.table.proofs.Search.{changed_found, found_looks}

module _ {K E : Type 0} (order : K → K → Ordering) (key : E → K) (laws : IsTotalOrder order) where
  all_found : (xs : List E) (i : ℕ) (d : E) → Ascends order key xs → i < length xs → look order key (key (get_or xs i d)) xs ≡ Some (get_or xs i d)
  all_found [] i d up h = absurd (not-suc-le-zero h)
  all_found (x ∷ xs) zero d up h = rw (tied_itself laws (key x))
  all_found (x ∷ xs) (suc i) d up h =
      let less = All-from_recursion (λ y. order (key x) (key y) ≡ Less) xs up.0 i d (le_of_suc-le-suc h) in
      rw less (all_found xs i d up.1 (le_of_suc-le-suc h))

  -- each entry of an ascending list is found under its key
  pub all_looks : (xs : List E) → Ascends order key xs → AllByRecursion (λ y. look order key (key y) xs ≡ Some y) xs
  all_looks xs up = recursion_from_All (λ y. look order key (key y) xs ≡ Some y) xs (λ i d h. all_found xs i d up h)

  once : (xs : List E) (i j : ℕ) (d : E) → Ascends order key xs → i < length xs → j < length xs → order (key (get_or xs i d)) (key (get_or xs j d)) ≡ Equal → i ≡ j
  once [] i j d up hi hj e = absurd (not-suc-le-zero hi)
  once (x ∷ xs) zero zero d up hi hj e = refl
  once (x ∷ xs) zero (suc j) d up hi hj e =
      let less = All-from_recursion (λ y. order (key x) (key y) ≡ Less) xs up.0 j d (le_of_suc-le-suc hj) in cc
  once (x ∷ xs) (suc i) zero d up hi hj e =
      let more = above order laws _ _ (All-from_recursion (λ y. order (key x) (key y) ≡ Less) xs up.0 i d (le_of_suc-le-suc hi)) in cc
  once (x ∷ xs) (suc i) (suc j) d up hi hj e = ap suc (once xs i j d up.1 (le_of_suc-le-suc hi) (le_of_suc-le-suc hj) e)

  put_found : (e : E) (xs : List E) → look order key (key e) xs ≡ None → look order key (key e) (put order key e xs) ≡ Some e
  put_found e [] h = rw (tied_itself laws (key e))
  put_found e (x ∷ xs) h =
      by_order (order (key x) (key e))
      (λ l. simp l (put_found e xs (simp l at h)))
      (λ q. let n = simp q at h in cc)
      (λ m. simp (m, tied_itself laws (key e)))

  -- nothing is found below the first key
  none_below : (k : K) (xs : List E) → AllByRecursion (λ y. order k (key y) ≡ Less) xs → look order key k xs ≡ None
  none_below k [] all = refl
  none_below k (x ∷ xs) all = simp (above order laws k (key x) all.0)

  -- what is below x is below all that x is below
  all_below : (k : K) (x : E) (xs : List E) → order k (key x) ≡ Less → AllByRecursion (λ y. order (key x) (key y) ≡ Less) xs → AllByRecursion (λ y. order k (key y) ≡ Less) xs
  all_below k x xs h all = all_weaker _ (λ y. order k (key y) ≡ Less) (λ y l. laws.trans k (key x) (key y) h l) xs all

  put_others : (e : E) (k : K) (xs : List E) → Differ order key (key e) k → look order key k (put order key e xs) ≡ look order key k xs
  put_others e k [] differ =
      by_order (order (key e) k) (λ l. simp l) (λ q. absurd (differ q)) (λ m. simp m)
  put_others e k (x ∷ xs) differ =
      by_order (order (key x) (key e))
      (λ l. simp l (ap (λ z. pick (order (key x) k) z (Some x) None) (put_others e k xs differ)))
      (λ q. simp q)
      (λ m. simp m
      (by_order (order (key e) k)
      (λ l. simp l)
      (λ q. absurd (differ q))
      (λ m'.
      let k-x = laws.trans k (key e) (key x) (below order laws (key e) k m') (below order laws (key x) (key e) m) in
      simp (m', above order laws k (key x) k-x))))

  put_ascends : (e : E) (xs : List E) → Ascends order key xs → Ascends order key (put order key e xs)
  put_ascends e [] up = (tt, tt)
  put_ascends e (x ∷ xs) up =
      by_order (order (key x) (key e))
      (λ l. simp l (all_put order key (λ y. order (key x) (key y) ≡ Less) e xs l up.0, put_ascends e xs up.1))
      (λ q. simp q up)
      (λ m.
      let e-x = below order laws (key x) (key e) m in
      simp m ((e-x, all_below (key e) x xs e-x up.0), up))

  without_gone : (k : K) (xs : List E) → Ascends order key xs → look order key k (without order key k xs) ≡ None
  without_gone k [] up = refl
  without_gone k (x ∷ xs) up =
      by_order (order (key x) k)
      (λ l. simp l (without_gone k xs up.1))
      (λ q. simp q (none_below k xs (all_weaker _ (λ y. order k (key y) ≡ Less) (λ y l. sym (laws.congr (key x) k (key y) q) ∙ l) xs up.0)))
      (λ m. simp m)

  without_others : (k j : K) (xs : List E) → Ascends order key xs → Differ order key k j → look order key j (without order key k xs) ≡ look order key j xs
  without_others k j [] up differ = refl
  without_others k j (x ∷ xs) up differ =
      by_order (order (key x) k)
      (λ l. simp l (ap (λ z. pick (order (key x) j) z (Some x) None) (without_others k j xs up.1 differ)))
      (λ q. simp q
      (by_order (order (key x) j)
      (λ l. simp l)
      (λ q'. absurd (differ (sym (laws.congr (key x) k j q) ∙ q')))
      (λ m. simp m (none_below j xs (all_below j x xs (below order laws (key x) j m) up.0)))))
      (λ m. simp m)

  without_ascends : (k : K) (xs : List E) → Ascends order key xs → Ascends order key (without order key k xs)
  without_ascends k [] up = tt
  without_ascends k (x ∷ xs) up =
      by_order (order (key x) k)
      (λ l. simp l (all_without order key (λ y. order (key x) (key y) ≡ Less) k xs up.0, without_ascends k xs up.1))
      (λ q. simp q up.1)
      (λ m. simp m up)

  -- a change that keeps the key of the entry that it finds
  module _ (f : E → E) (k : K) (keeps : (x : E) → order (key x) k ≡ Equal → key (f x) ≡ key x) where
    pub changed_own : (xs : List E) → look order key k (changed order key f k xs) ≡ option_map f (look order key k xs)
    changed_own [] = refl
    changed_own (x ∷ xs) =
        by_order (order (key x) k) (λ l. simp l (changed_own xs)) (λ q. simp (q, keeps x q)) (λ m. simp m)

    pub changed_others : (j : K) (xs : List E) → Differ order key k j → look order key j (changed order key f k xs) ≡ look order key j xs
    changed_others j [] differ = refl
    changed_others j (x ∷ xs) differ =
        by_order (order (key x) k)
        (λ l. simp l (ap (λ z. pick (order (key x) j) z (Some x) None) (changed_others j xs differ)))
        (λ q. simp (q, keeps x q)
        (by_order (order (key x) j)
        (λ l. simp l)
        (λ q'. absurd (differ (sym (laws.congr (key x) k j q) ∙ q')))
        (λ m. simp m)))
        (λ m. simp m)

    pub changed_ascends : (xs : List E) → Ascends order key xs → Ascends order key (changed order key f k xs)
    changed_ascends [] up = tt
    changed_ascends (x ∷ xs) up =
        by_order (order (key x) k)
        (λ l. simp l (all_changed order key (λ y. order (key x) (key y) ≡ Less) f k xs (λ y at less. ap (order (key x)) (keeps y (look_equal order key k xs y at)) ∙ less) up.0, changed_ascends xs up.1))
        (λ q. simp (q, keeps x q) up)
        (λ m. simp m up)

  pub table_laws : Laws order key
  table_laws = record {
    found_looks = found_looks order key;
    all_found = all_found;
    once = once;
    put_found = put_found;
    put_others = put_others;
    put_ascends = put_ascends;
    without_gone = without_gone;
    without_others = without_others;
    without_ascends = without_ascends;
    changed_at = changed_found order key;
    changed_found = λ f k xs keeps. changed_own f k (λ x _. keeps x) xs;
    changed_others = λ f k j xs keeps. changed_others f k (λ x _. keeps x) j xs;
    changed_ascends = λ f k xs keeps. changed_ascends f k (λ x _. keeps x) xs;
  }

  pub found_exactly : ((a b : K) → order a b ≡ Equal → a ≡ b) → FoundExactly order key
  found_exactly same k xs e h = same (key e) k (look_equal order key k xs e h)
