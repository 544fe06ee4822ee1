-- What holds of every element, said by recursion on the list as the promises say it: std's lemmas on `All`, and on two facts at once.
use Rattle.std.proofs.Common.{◌≡◌, ℕ, ◌<◌, Bool, true, List, [], ◌∷◌, ◌++◌, map, length, get_or, take, drop, filter, arith}
use Rattle.std.proofs.lemmas.List.Elements.{All-append, All-drop, All-from_recursion as as_All, All-map, All-take, recursion_from_All as by_recursion}
use Rattle.std.specs.List.{AllByRecursion}

module _ {X : Type 0} (P : X → Type 0) where
  pub all_append : (xs ys : List X) → AllByRecursion P xs → AllByRecursion P ys → AllByRecursion P (xs ++ ys)
  all_append xs ys p q = by_recursion P (xs ++ ys) (All-append P xs ys (as_All P xs p) (as_All P ys q))

  pub all_take : (n : ℕ) (xs : List X) → AllByRecursion P xs → AllByRecursion P (take n xs)
  all_take n xs p = by_recursion P (take n xs) (All-take P n xs (as_All P xs p))

  pub all_drop : (n : ℕ) (xs : List X) → AllByRecursion P xs → AllByRecursion P (drop n xs)
  all_drop n xs p = by_recursion P (drop n xs) (All-drop P n xs (as_All P xs p))

  pub all_map : {Y : Type 0} (f : Y → X) (ys : List Y) → AllByRecursion (λ y. P (f y)) ys → AllByRecursion P (map f ys)
  all_map f ys p = by_recursion P (map f ys) (All-map P f ys (as_All (λ y. P (f y)) ys p))

  pub all_get_or : (xs : List X) (i : ℕ) (d : X) → i < length xs → AllByRecursion P xs → P (get_or xs i d)
  all_get_or xs i d h p = grind (arith, as_All)

  -- of what a test keeps
  pub all_filter : (Q : X → Type 0) (test : X → Bool) → ((x : X) → test x ≡ true → P x → Q x) → (xs : List X) → AllByRecursion P xs → AllByRecursion Q (filter test xs)
  all_filter Q test f [] p = tt
  all_filter Q test f (x ∷ xs) p = grind (arith, all_filter Q test f xs p.1)

  pub all_with : (Q R : X → Type 0) → ((x : X) → P x → Q x → R x) → (xs : List X) → AllByRecursion P xs → AllByRecursion Q xs → AllByRecursion R xs
  all_with Q R f [] p q = tt
  all_with Q R f (x ∷ xs) p q = (f x p.0 q.0, all_with Q R f xs p.1 q.1)
