-- What a roster of keys has to be, and where a key stands in it. A key counts as its bytes.
use Rattle.std.specs.Prelude.{ℕ, suc, ◌≤◌, Bool, true, cond, ◌&&◌, List, [], ◌∷◌, map, length, take, Some, None, Option, nat_le, nat_lt}
use Rattle.std.specs.Option.{option_map}
use Rattle.std.specs.Ordering.{is_eq, is_lt}
use Rattle.register.specs.Order.{order}
use Rattle.register.specs.declared.key.Key.{Key}

abbrev pub bytes_of : Key → List ℕ
bytes_of k = k.bytes

abbrev pub all_bytes : List Key → List (List ℕ)
all_bytes ks = map bytes_of ks

-- as many keys as a roster has room for
abbrev pub Few : List Key → Type 0
Few ks = length ks ≤ 64

-- each key is above the one before it; `rises k ks` says it of k and those after it
abbrev pub rises : List ℕ → List (List ℕ) → Bool
rises k [] = true
rises k (l ∷ ks) = is_lt (order k l) && rises l ks

abbrev pub ascending : List (List ℕ) → Bool
ascending [] = true
ascending (k ∷ ks) = rises k ks

-- the place of k
abbrev pub index : List ℕ → List (List ℕ) → Option ℕ
index k [] = None
index k (l ∷ ks) = cond (is_eq (order l k)) (Some 0) (option_map suc (index k ks))

-- an own index, if any, is that of a member
abbrev pub below : Option ℕ → ℕ → Bool
below None n = true
below (Some i) n = nat_lt i n

-- what the first n of the slots hold
abbrev pub sound : List Key → ℕ → Option ℕ → Bool
sound ks n own = nat_le n 64 && (nat_le n (length ks) && (ascending (all_bytes (take n ks)) && below own n))

-- what is read past the end
abbrev pub blank : Key
blank = record { bytes = [] }
