-- Where keys stand among members, and what the class of a shard says of its index.
use Rattle.std.proofs.Common.{◌≡◌, ℕ, ◌<◌, List, [], ◌∷◌, length, Some, None, Option, arith}
use Rattle.std.proofs.lemmas.Grind.{common_steps}
use Rattle.register.specs.ByteOrder.{order_same}
use Rattle.rosters.specs.Roster.{Fair}
use Rattle.rosters.specs.Sound.{index}
use Rattle.model.specs.Intake.{assigned, stray, classed}

-- a member's place is below the number of members
pub index_below : (k : List ℕ) (ks : List (List ℕ)) (i : ℕ) → index k ks ≡ Some i → i < length ks
index_below k [] i h = cc
index_below k (l ∷ ks) i h = grind (arith, common_steps, index_below k ks)

-- two keys at one place are the same
pub index_same : (k l : List ℕ) (ks : List (List ℕ)) (i : ℕ) → index k ks ≡ Some i → index l ks ≡ Some i → k ≡ l
index_same k l [] i e f = cc
index_same k l (x ∷ ks) i e f = grind (arith, common_steps, index_same k l ks, order_same x k, order_same x l)

-- the own index is that of a member
pub own_below : (ks : List (List ℕ)) (own : Option ℕ) (i : ℕ) → Fair (Some ks) own → own ≡ Some i → i < length ks
own_below ks own i fair h = grind arith

module _ (leader : Option (List ℕ)) (sender : List ℕ) (place i : ℕ) (own : Option ℕ) where
  -- an assigned shard is at the own index; on a node without one, at its sender's place
  pub assigned_at : (o : ℕ) → classed own leader sender place i ≡ assigned → own ≡ Some o → i ≡ o
  assigned_at o class is = grind arith

  pub assigned_without : classed own leader sender place i ≡ assigned → own ≡ None → i ≡ place
  assigned_without class none = grind arith

  pub stray_not_own : classed own leader sender place i ≡ stray → own ≡ Some i → ⊥
  stray_not_own class is = grind arith

  pub stray_not_at : classed own leader sender place i ≡ stray → i ≡ place → ⊥
  stray_not_at class is = grind arith
