-- The window: which entry leaves first, and when a new one is let in. `round` and `key` are an entry's. Assumes nothing.
use Rattle.std.specs.Prelude.{ℕ, Bool, false, cond, ◌||◌, List, [], ◌∷◌, length, Some, None, Option, nat_lt}
use Rattle.register.specs.Order.{order}
use Rattle.register.specs.declared.counters.Round.{Round}
use Rattle.table.specs.Table.{without}
use Rattle.model.specs.State.{lower}

module _ {E : Type 0} (round : E → Round) (key : E → List ℕ) where
  -- the lower round, the first of equals
  abbrev pub lower_of : E → Option E → E
  lower_of x None = x
  lower_of x (Some y) = cond (lower (round y) (round x)) y x

  abbrev pub lowest : List E → Option E
  lowest [] = None
  lowest (x ∷ xs) = Some (lower_of x (lowest xs))

  abbrev pub leaves : Option E → List E → List E
  leaves None xs = xs
  leaves (Some x) xs = without order key (key x) xs

  -- beyond the window the lowest round leaves, the smallest commitment among equals
  abbrev pub trimmed : ℕ → List E → List E
  trimmed window xs = cond (nat_lt window (length xs)) (leaves (lowest xs) xs) xs

  abbrev pub any_lower : Round → List E → Bool
  any_lower at [] = false
  any_lower at (x ∷ xs) = lower (round x) at || any_lower at xs

  abbrev pub admits : ℕ → Round → List E → Bool
  admits window at xs = nat_lt (length xs) window || any_lower at xs
