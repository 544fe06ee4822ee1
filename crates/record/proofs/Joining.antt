-- A shard that is kept: the others lie as they did, and each list holds what the model's holds.
use Rattle.std.proofs.Common.{◌≡◌, ℕ, ◌<◌, ◌≤◌, Bool, true, false, inl, inr, Ordering, List, [], ◌∷◌, map, length, get_or, set, refl, ap, ◌∙◌, arith, get_or-set_other, get_or-set_same}
use Rattle.std.specs.Ordering.{nat_cmp}
use Rattle.std.specs.List.{All}
use Rattle.places.specs.Places.{held}
use Rattle.register.specs.Order.{order}
use Rattle.model.specs.Intake.{index_of, sender_of}
use Rattle.std.proofs.lemmas.Bool.{cases_eq}
use Rattle.std.proofs.lemmas.List.Elements.{All-from_recursion, All-head, All-tail, recursion_from_All}
use Rattle.table.proofs.Carried as carried
use Rattle.table.proofs.Carried.{map-put}
use Rattle.table.specs.Table.{put}
use Rattle.record.specs.Fields.{by_index, by_sender, index_named, sender_named}
use Rattle.record.specs.Joins.{Elsewhere}
use Rattle.record.specs.Sound.{Lies}
use Rattle.record.specs.Views.{Memory, memory, place_of, sent_in, shard_in}
use Rattle.record.specs.declared.stored.Pending.{Pending}
use Rattle.record.specs.declared.stored.Stored.{Stored}

-- two meanings that agree on every element
pub map_alike : {X Y : Type 0} (P : X → Type 0) (f g : X → Y) (xs : List X) → ((x : X) → P x → f x ≡ g x) → All P xs → map f xs ≡ map g xs
map_alike P f g [] h all = refl
map_alike P f g (x ∷ xs) h all = let a = h x (All-head P x xs all) in let b = map_alike P f g xs h (All-tail P x xs all) in cc

-- what holds of a table's entries and of one put in
pub all_put : {K E : Type 0} (order : K → K → Ordering) (key : E → K) (P : E → Type 0) (e : E) (xs : List E) → P e → All P xs → All P (put order key e xs)
all_put order key P e xs h all = All-from_recursion P (put order key e xs) (carried.all_put order key P e xs h (recursion_from_All P xs all))

-- the flags with one more
pub still_counted : (flags : List Bool) (i j : ℕ) → i < length flags → get_or flags j false ≡ true → get_or (set flags i true) j false ≡ true
still_counted flags i j h e =
    elim (cases_eq j i) [
      | inl same ↦ rw same (get_or-set_same flags i true false h)
      | inr differs ↦ get_or-set_other flags i j true false differs ∙ e
    ]

module _ (width slot i : ℕ) (shards after : List ℕ) (size : ℕ) (blobs : List ℕ) (flags : List Bool) (fresh : get_or flags i false ≡ false)
    (others : (other n : ℕ) → (other ≡ place_of slot i → ⊥) → n ≤ width → held width other n after ≡ held width other n shards) where
  abbrev at : Memory
  at = memory width shards size blobs

  abbrev new : Memory
  new = memory width after size blobs

  -- a shard whose index has contributed lies as it did
  pub lies_still : (s : Stored) → Lies width flags s → shard_in new slot s ≡ shard_in at slot s
  lies_still s l =
      let ne : place_of slot s.index.0 ≡ place_of slot i → ⊥ = λ e. absurd (let same : s.index.0 ≡ i = omega arith in let z : ◌≡◌ {A = ℕ} 0 1 = cc (l.counted, fresh, same) in omega arith) in
      ap (λ b. record { index = s.index.0; bytes = b }) (others (place_of slot s.index.0) s.len ne l.short)

  pub sent_still : (p : Pending) → Lies width flags p.shard → sent_in new slot p ≡ sent_in at slot p
  sent_still p l = ap (λ x. record { sender = p.sender.bytes; shard = x }) (lies_still p.shard l)

  -- a table of stored shards with one put in
  pub stored_put : (e : Stored) (xs : List Stored) → All (Lies width flags) xs → map (shard_in new slot) (put by_index index_named e xs) ≡ put nat_cmp index_of (shard_in new slot e) (map (shard_in at slot) xs)
  stored_put e xs all = map-put by_index index_named nat_cmp index_of (shard_in new slot) e xs (λ x. refl) ∙ ap (put nat_cmp index_of (shard_in new slot e)) (map_alike (Lies width flags) (shard_in new slot) (shard_in at slot) xs lies_still all)

  pub sent_put : (e : Pending) (xs : List Pending) → All (λ p. Lies width flags p.shard) xs → map (sent_in new slot) (put by_sender sender_named e xs) ≡ put order sender_of (sent_in new slot e) (map (sent_in at slot) xs)
  sent_put e xs all = map-put by_sender sender_named order sender_of (sent_in new slot) e xs (λ x. refl) ∙ ap (put order sender_of (sent_in new slot e)) (map_alike (λ p. Lies width flags p.shard) (sent_in new slot) (sent_in at slot) xs sent_still all)

-- what is stored in one slot leaves the other slots
pub elsewhere : (width slot i : ℕ) (shards after : List ℕ) → i < 64 →
    ((other n : ℕ) → (other ≡ place_of slot i → ⊥) → n ≤ width → held width other n after ≡ held width other n shards) → Elsewhere width slot shards after
elsewhere width slot i shards after low others other j n ne lt h =
    others (place_of other j) n (λ e. ne (omega (arith, e, lt, low))) h
