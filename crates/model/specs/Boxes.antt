-- Boxes: what waits there, what is drawn and in which order. Assumes nothing.
use Rattle.std.specs.Prelude.{ℕ, zero, suc, ◌-◌, Bool, false, cond, ◌&&◌, ◌||◌, List, [], ◌∷◌, ◌++◌, map, length, take, drop, is_some, Some, None, Option, ◌==◌, nat_lt}
use Rattle.std.specs.Str.{bytes_eq}
use Rattle.register.specs.Order.{order}
use Rattle.rosters.specs.Sound.{index}
use Rattle.table.specs.Laws.{look}
use Rattle.table.specs.Table.{changed}
use Rattle.model.specs.State.{Early, Peer, Sent, key_of}

abbrev pub with_box : List Early → Peer → Peer
with_box box p = record { key = p.key; box = box }

-- a full box loses its front
abbrev pub boxed : ℕ → Early → List Early → List Early
boxed limit e box = cond (nat_lt (length box) limit) box (drop 1 box) ++ e ∷ []

abbrev pub boxes_with : ℕ → List ℕ → Early → List Peer → List Peer
boxes_with limit k e ps = changed order key_of (λ p. with_box (boxed limit e p.box) p) k ps

abbrev pub is_primary : List ℕ → List Peer → Bool
is_primary k ps = is_some (look order key_of k ps)

-- the last in front of the others
abbrev pub turned : {X : Type 0} → List X → List X
turned xs = drop (length xs - 1) xs ++ take (length xs - 1) xs

-- entries are looked at from the front; where one is drawn the last takes its place, which is looked at again.
-- `n` counts the entries that are left to look at
abbrev pub drawn_from : {X : Type 0} → (X → Bool) → ℕ → List X → List X
drawn_from wanted zero xs = []
drawn_from wanted (suc n) [] = []
drawn_from wanted (suc n) (x ∷ xs) = cond (wanted x) (x ∷ drawn_from wanted n (turned xs)) (drawn_from wanted n xs)

abbrev pub left_from : {X : Type 0} → (X → Bool) → ℕ → List X → List X
left_from wanted zero xs = xs
left_from wanted (suc n) [] = []
left_from wanted (suc n) (x ∷ xs) = cond (wanted x) (left_from wanted n (turned xs)) (x ∷ left_from wanted n xs)

abbrev pub drawn : {X : Type 0} → (X → Bool) → List X → List X
drawn wanted xs = drawn_from wanted (length xs) xs

abbrev pub left : {X : Type 0} → (X → Bool) → List X → List X
left wanted xs = left_from wanted (length xs) xs

abbrev pub stands_at : ℕ → Option ℕ → Bool
stands_at i None = false
stands_at i (Some place) = i == place

-- an entry of the commitment is drawn if the leader is known or its index is its sender's
abbrev pub wanted_by : List ℕ → Bool → List (List ℕ) → List ℕ → Early → Bool
wanted_by c led keys sender e = bytes_eq e.commitment c && (led || stands_at e.shard.index (index sender keys))

module _ (wanted : List ℕ → Early → Bool) where
  abbrev pub sent_by : Peer → List Sent
  sent_by p = map (λ e. record { sender = p.key; shard = e.shard }) (drawn (wanted p.key) p.box)

  abbrev pub emptied : Peer → Peer
  emptied p = with_box (left (wanted p.key) p.box) p

  -- boxes go in key order
  abbrev pub all_drawn : List Peer → List Sent
  all_drawn [] = []
  all_drawn (p ∷ ps) = sent_by p ++ all_drawn ps

  abbrev pub all_left : List Peer → List Peer
  all_left ps = map emptied ps

-- the box of a key, empty where it has none
abbrev pub box_of : Option Peer → List Early
box_of None = []
box_of (Some p) = p.box

-- the primary peers are these keys; the boxes of peers no longer named are dropped
abbrev pub renewed : List (List ℕ) → List Peer → List Peer
renewed ks ps = map (λ k. record { key = k; box = box_of (look order key_of k ps) }) ks
