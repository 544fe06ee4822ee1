-- Lemmas on tables that need no law of the order: what holds of every entry, how many there are, and entries that are carried over to others.
use Rattle.std.proofs.Common.{◌≡◌, ℕ, suc, ◌+◌, ◌≤◌, List, [], ◌∷◌, map, length, Some, Ok, Err, Result, Ordering, Equal, sym, refl, ap, ◌∙◌, subst, arith}
use Rattle.std.proofs.lemmas.Option.{none-some, same_Some}
use Rattle.std.specs.Option.{option_map}
use Rattle.std.specs.List.{AllByRecursion}
use Rattle.table.proofs.Orders.{by_order}
use Rattle.table.specs.Laws.{look}
use Rattle.table.specs.Table.{changed, found, later, put, without}

pub all_weaker : {E : Type 0} (P Q : E → Type 0) → ((x : E) → P x → Q x) → (xs : List E) → AllByRecursion P xs → AllByRecursion Q xs
all_weaker P Q f [] all = tt
all_weaker P Q f (x ∷ xs) all = (f x all.0, all_weaker P Q f xs all.1)

module _ {K E : Type 0} (order : K → K → Ordering) (key : E → K) where
  pub all_put : (P : E → Type 0) (e : E) (xs : List E) → P e → AllByRecursion P xs → AllByRecursion P (put order key e xs)
  all_put P e [] h all = (h, tt)
  all_put P e (x ∷ xs) h all =
      by_order (order (key x) (key e))
      (λ l. simp l (all.0, all_put P e xs h all.1))
      (λ q. simp q all)
      (λ m. simp m (h, all))

  pub all_without : (P : E → Type 0) (k : K) (xs : List E) → AllByRecursion P xs → AllByRecursion P (without order key k xs)
  all_without P k [] all = tt
  all_without P k (x ∷ xs) all =
      by_order (order (key x) k)
      (λ l. simp l (all.0, all_without P k xs all.1))
      (λ q. simp q all.1)
      (λ m. simp m all)

  pub all_changed : (P : E → Type 0) (f : E → E) (k : K) (xs : List E) → ((x : E) → look order key k xs ≡ Some x → P x → P (f x)) → AllByRecursion P xs → AllByRecursion P (changed order key f k xs)
  all_changed P f k [] h all = tt
  all_changed P f k (x ∷ xs) h all =
      by_order (order (key x) k)
      (λ l. simp l (all.0, all_changed P f k xs (λ y e p. h y (simp l e) p) all.1))
      (λ q. simp q (h x (simp q) all.0, all.1))
      (λ m. simp m all)

  -- what is found compares as equal
  pub look_equal : (k : K) (xs : List E) (e : E) → look order key k xs ≡ Some e → order (key e) k ≡ Equal
  look_equal k [] e h = absurd (none-some e h)
  look_equal k (x ∷ xs) e h =
      by_order (order (key x) k)
      (λ l. look_equal k xs e (simp l at h))
      (λ q. ap (λ y. order (key y) k) (sym (same_Some x e (simp q at h))) ∙ q)
      (λ m. absurd (none-some e (simp m at h)))

  -- what is found is an entry
  pub all_look : (P : E → Type 0) (k : K) (xs : List E) (e : E) → look order key k xs ≡ Some e → AllByRecursion P xs → P e
  all_look P k [] e h all = absurd (none-some e h)
  all_look P k (x ∷ xs) e h all =
      by_order (order (key x) k)
      (λ l. all_look P k xs e (simp l at h) all.1)
      (λ q. subst P (same_Some x e (simp q at h)) all.0)
      (λ m. absurd (none-some e (simp m at h)))

  later_is : (r : Result ℕ ℕ) (i : ℕ) → later r ≡ Ok i → (j : ℕ) × (r ≡ Ok j)
  later_is (Ok j) i h = (j, refl)
  later_is (Err j) i h = absurd (let z : ◌≡◌ {A = ℕ} 0 1 = cc in omega arith)

  -- an entry whose key is there is not put in
  pub put_present : (e : E) (xs : List E) (i : ℕ) → found order key (key e) xs ≡ Ok i → put order key e xs ≡ xs
  put_present e [] i h = absurd (let z : ◌≡◌ {A = ℕ} 0 1 = cc in omega arith)
  put_present e (x ∷ xs) i h =
      by_order (order (key x) (key e))
      (λ l. let j = later_is (found order key (key e) xs) i (simp l at h) in simp l (ap (λ ys. x ∷ ys) (put_present e xs j.0 j.1)))
      (λ q. simp q)
      (λ m. absurd (let n : Err 0 ≡ Ok i = simp m at h in let z : ◌≡◌ {A = ℕ} 0 1 = cc in omega arith))

  pub length-put : (e : E) (xs : List E) → length (put order key e xs) ≤ length xs + 1
  length-put e [] = omega arith
  length-put e (x ∷ xs) =
      by_order (order (key x) (key e))
      (λ l. simp l (omega (arith, length-put e xs)))
      (λ q. simp q (omega arith))
      (λ m. simp m (omega arith))

  pub length-changed : (f : E → E) (k : K) (xs : List E) → length (changed order key f k xs) ≡ length xs
  length-changed f k [] = refl
  length-changed f k (x ∷ xs) =
      by_order (order (key x) k) (λ l. simp l (ap suc (length-changed f k xs))) (λ q. simp q) (λ m. simp m)

  pub length-without : (k : K) (xs : List E) (e : E) → look order key k xs ≡ Some e → suc (length (without order key k xs)) ≡ length xs
  length-without k [] e h = cc
  length-without k (x ∷ xs) e h =
      by_order (order (key x) k)
      (λ l. simp l (ap suc (length-without k xs e (simp l at h))))
      (λ q. simp q)
      (λ m. let n = simp m at h in cc)

  pub without_at_most : (k : K) (xs : List E) → length (without order key k xs) ≤ length xs
  without_at_most k [] = omega arith
  without_at_most k (x ∷ xs) =
      by_order (order (key x) k)
      (λ l. simp l (let h = without_at_most k xs in omega arith))
      (λ q. simp q (omega arith))
      (λ m. simp m (omega arith))

  -- changes that do the same to what is found are the same
  pub changed_alike : (f g : E → E) (k : K) (xs : List E) (e : E) → look order key k xs ≡ Some e → f e ≡ g e → changed order key f k xs ≡ changed order key g k xs
  changed_alike f g k [] e h same = refl
  changed_alike f g k (x ∷ xs) e h same =
      by_order (order (key x) k)
      (λ l. simp l (ap (λ ys. x ∷ ys) (changed_alike f g k xs e (simp l at h) same)))
      (λ q. let n = same_Some x e (simp q at h) in simp q (ap (λ y. y ∷ xs) (ap f n ∙ same ∙ ap g (sym n))))
      (λ m. simp m)

  changed_none_at : (k : K) (xs : List E) → changed order key (λ x. x) k xs ≡ xs
  changed_none_at k [] = refl
  changed_none_at k (x ∷ xs) =
      by_order (order (key x) k)
      (λ l. simp l (ap (λ ys. x ∷ ys) (changed_none_at k xs)))
      (λ q. simp q)
      (λ m. simp m)

  pub changed_same : (f : E → E) (k : K) (xs : List E) (e : E) → look order key k xs ≡ Some e → f e ≡ e → changed order key f k xs ≡ xs
  changed_same f k xs e h same = changed_alike f (λ x. x) k xs e h same ∙ changed_none_at k xs

module _ {K E L F : Type 0} (order : K → K → Ordering) (key : E → K) (order' : L → L → Ordering) (key' : F → L) (f : E → F) where
  -- where keys compare alike, so do tables
  pub map-put : (e : E) (xs : List E) → ((x : E) → order' (key' (f x)) (key' (f e)) ≡ order (key x) (key e)) → map f (put order key e xs) ≡ put order' key' (f e) (map f xs)
  map-put e [] alike = refl
  map-put e (x ∷ xs) alike =
      by_order (order (key x) (key e))
      (λ l. let m = alike x ∙ l in simp (l, m) (ap (λ ys. f x ∷ ys) (map-put e xs alike)))
      (λ q. let m = alike x ∙ q in simp (q, m))
      (λ g. let m = alike x ∙ g in simp (g, m))

  pub map-look : (k : K) (l : L) (xs : List E) → ((x : E) → order' (key' (f x)) l ≡ order (key x) k) → look order' key' l (map f xs) ≡ option_map f (look order key k xs)
  map-look k l [] alike = refl
  map-look k l (x ∷ xs) alike =
      by_order (order (key x) k)
      (λ e. let m = alike x ∙ e in simp (e, m) (map-look k l xs alike))
      (λ e. let m = alike x ∙ e in simp (e, m))
      (λ e. let m = alike x ∙ e in simp (e, m))

  pub map-without : (k : K) (l : L) (xs : List E) → ((x : E) → order' (key' (f x)) l ≡ order (key x) k) → map f (without order key k xs) ≡ without order' key' l (map f xs)
  map-without k l [] alike = refl
  map-without k l (x ∷ xs) alike =
      by_order (order (key x) k)
      (λ e. let m = alike x ∙ e in simp (e, m) (ap (λ ys. f x ∷ ys) (map-without k l xs alike)))
      (λ e. let m = alike x ∙ e in simp (e, m))
      (λ e. let m = alike x ∙ e in simp (e, m))

  pub map-changed : (h : E → E) (h' : F → F) (k : K) (l : L) (xs : List E) → ((x : E) → order' (key' (f x)) l ≡ order (key x) k) → ((x : E) → f (h x) ≡ h' (f x)) → map f (changed order key h k xs) ≡ changed order' key' h' l (map f xs)
  map-changed h h' k l [] alike same = refl
  map-changed h h' k l (x ∷ xs) alike same =
      by_order (order (key x) k)
      (λ e. let m = alike x ∙ e in simp (e, m) (ap (λ ys. f x ∷ ys) (map-changed h h' k l xs alike same)))
      (λ e. let m = alike x ∙ e in simp (e, m) (ap (λ y. y ∷ map f xs) (same x)))
      (λ e. let m = alike x ∙ e in simp (e, m))
