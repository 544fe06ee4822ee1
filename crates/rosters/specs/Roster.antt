-- What a roster tells of an epoch: that it is unknown, or its keys; and the node's own index.
use Rattle.std.specs.Prelude.{◌≡◌, ℕ, ◌≤◌, T, List, length, Some, None, Option}
use Rattle.std.specs.Borrow.{Bor}
use Rattle.std.specs.Option.{option_map}
use Rattle.register.specs.declared.key.Key.{Key}
use Rattle.rosters.specs.Sound.{all_bytes, ascending, below, index}

-- at most 64 keys, each above the one before it, and the own index, if any, that of one of them
abbrev pub Fair : Option (List (List ℕ)) → Option ℕ → Type 0
Fair None own = own ≡ None
Fair (Some ks) own = (length ks ≤ 64) × T (ascending ks) × T (below own (length ks))

-- the place of k among an epoch's keys
abbrev pub index_in : List ℕ → Option (List (List ℕ)) → Option ℕ
index_in k None = None
index_in k (Some ks) = index k ks

-- the keys that are lent
abbrev pub lent : Option (Bor (List Key)) → Option (List (List ℕ))
lent r = option_map (λ s. all_bytes s.now) r
