-- What a table comes to, in the words of its users: what is found after each change, and that the keys ascend.
use Rattle.std.specs.Prelude.{◌≡◌, ℕ, ◌<◌, List, [], ◌∷◌, length, Some, None, Option, Result, MatchResult, slice_index_or, slice_set}
use Rattle.std.specs.declared.cmp.Ordering.TheVariants.{Less, Equal}
use Rattle.std.specs.declared.cmp.Ordering.{Ordering}
use Rattle.std.specs.Option.{option_map}
use Rattle.std.specs.List.{AllByRecursion}
use Rattle.table.specs.Table.{pick, found, put, without, changed}

module _ {K E : Type 0} (order : K → K → Ordering) (key : E → K) where
  -- each key is below those after it
  abbrev pub Ascends : List E → Type 0
  Ascends [] = Unit {0}
  Ascends (x ∷ xs) = AllByRecursion (λ y. order (key x) (key y) ≡ Less) xs × Ascends xs

  -- the entry of k
  abbrev pub look : K → List E → Option E
  look k [] = None
  look k (x ∷ xs) = pick (order (key x) k) (look k xs) (Some x) None

  -- what a search for k comes to: the place of its entry, or that there is none
  abbrev pub Tells : K → List E → Result ℕ ℕ → Type 0
  Tells k xs answer = MatchResult answer (λ i. (d : E) → look k xs ≡ Some (slice_index_or xs i d)) (λ _. look k xs ≡ None)

  abbrev pub Differ : K → K → Type 0
  Differ j k = order j k ≡ Equal → ⊥

  abbrev pub Keeps : (E → E) → Type 0
  Keeps f = (x : E) → key (f x) ≡ key x

  pub record Laws : Type 0 where
    -- the place that is found is that of the entry
    pub found_looks : (k : K) (xs : List E) → Tells k xs (found order key k xs)
    -- what stands in a table is found, and stands there once
    pub all_found : (xs : List E) (i : ℕ) (d : E) → Ascends xs → i < length xs → look (key (slice_index_or xs i d)) xs ≡ Some (slice_index_or xs i d)
    pub once : (xs : List E) (i j : ℕ) (d : E) → Ascends xs → i < length xs → j < length xs → order (key (slice_index_or xs i d)) (key (slice_index_or xs j d)) ≡ Equal → i ≡ j
    -- an entry that is put in is found, and the others as before
    pub put_found : (e : E) (xs : List E) → look (key e) xs ≡ None → look (key e) (put order key e xs) ≡ Some e
    pub put_others : (e : E) (k : K) (xs : List E) → Differ (key e) k → look k (put order key e xs) ≡ look k xs
    pub put_ascends : (e : E) (xs : List E) → Ascends xs → Ascends (put order key e xs)
    -- an entry that is taken out is not found, and the others as before
    pub without_gone : (k : K) (xs : List E) → Ascends xs → look k (without order key k xs) ≡ None
    pub without_others : (k j : K) (xs : List E) → Ascends xs → Differ k j → look j (without order key k xs) ≡ look j xs
    pub without_ascends : (k : K) (xs : List E) → Ascends xs → Ascends (without order key k xs)
    -- a change that keeps the key is a write at the place that is found; it is found, and the others as before
    pub changed_at : (f : E → E) (k : K) (xs : List E) → MatchResult (found order key k xs) (λ i. (d : E) → changed order key f k xs ≡ slice_set xs i (f (slice_index_or xs i d))) (λ _. changed order key f k xs ≡ xs)
    pub changed_found : (f : E → E) (k : K) (xs : List E) → Keeps f → look k (changed order key f k xs) ≡ option_map f (look k xs)
    pub changed_others : (f : E → E) (k j : K) (xs : List E) → Keeps f → Differ k j → look j (changed order key f k xs) ≡ look j xs
    pub changed_ascends : (f : E → E) (k : K) (xs : List E) → Keeps f → Ascends xs → Ascends (changed order key f k xs)

  -- where equal is the same key: the entry that is found has the key that was asked for
  abbrev pub FoundExactly : Type 0
  FoundExactly = (k : K) (xs : List E) (e : E) → look k xs ≡ Some e → key e ≡ k
