-- What a table holds after each call, over the list of its entries. `key` is an entry's key, `order` the order of keys.
use Rattle.std.specs.Prelude.{ℕ, suc, List, [], ◌∷◌, Some, None, Ok, Err, Option, Result}
use Rattle.std.specs.declared.cmp.Ordering.TheVariants.{Less, Equal, Greater}
use Rattle.std.specs.declared.cmp.Ordering.{Ordering}

abbrev pub pick : {X : Type 0} → Ordering → X → X → X → X
pick Less below same above = below
pick Equal below same above = same
pick Greater below same above = above

-- one place further on
abbrev pub later : Result ℕ ℕ → Result ℕ ℕ
later (Ok i) = Ok (suc i)
later (Err i) = Err (suc i)

-- the first entry
abbrev pub lowest : {E : Type 0} → List E → Option E
lowest [] = None
lowest (x ∷ xs) = Some x

module _ {K E : Type 0} (order : K → K → Ordering) (key : E → K) where
  -- the place of k, or the place where it would go
  abbrev pub found : K → List E → Result ℕ ℕ
  found k [] = Err 0
  found k (x ∷ xs) = pick (order (key x) k) (later (found k xs)) (Ok 0) (Err 0)

  -- the table with e in its place; as it was where an entry with the same key is there
  abbrev pub put : E → List E → List E
  put e [] = e ∷ []
  put e (x ∷ xs) = pick (order (key x) (key e)) (x ∷ put e xs) (x ∷ xs) (e ∷ x ∷ xs)

  -- the table with the entry of k taken out
  abbrev pub without : K → List E → List E
  without k [] = []
  without k (x ∷ xs) = pick (order (key x) k) (x ∷ without k xs) xs (x ∷ xs)

  -- the table with f done to the entry of k, in place
  abbrev pub changed : (E → E) → K → List E → List E
  changed f k [] = []
  changed f k (x ∷ xs) = pick (order (key x) k) (x ∷ changed f k xs) (f x ∷ xs) (x ∷ xs)
