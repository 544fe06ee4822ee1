-- A shard that was made leads to the root. Assumes nothing.
use Rattle.std.proofs.Common.{◌≡◌, ℕ, zero, suc, ◌+◌, ◌-◌, ◌*◌, ◌/◌, ◌%◌, ◌^◌, ◌<◌, ◌≤◌, true, ltb, List, [], ◌++◌, length, get_or, take, drop, replicate, sym, refl, ap, ◌∙◌, subst, ⊎_elim, mul_comm, zero-add, div-one, add-one, arith, length-append, take_at, drop_at, lt-ltb, eq-eqb, ne_eqb}
use Rattle.std.proofs.Math.Nat.{div-eq_of_lt}
use Rattle.std.proofs.lemmas.Nat.{shr-shr}
use Rattle.std.proofs.lemmas.List.FromFn.{get_or-range_with_len, length-range_with_len}
use Rattle.std.proofs.lemmas.Slice.Eq.{bytes_eq-Decides}
use Rattle.std.proofs.lemmas.Bool.{and_from, cases_eq, cond_both}
use Rattle.std.specs.List.{range_with_len, flat_map}
use Rattle.tree.proofs.Depth.{depth_enough}
use Rattle.tree.proofs.Joining.{Level, length-joined, part_joined}
use Rattle.tree.specs.Laws.{Long}
use Rattle.tree.specs.Trees.{above, beside, climbed, leaf, levels, node, path, payload, root, rooted, shard}

module _ (digest : List ℕ → List ℕ) (long : Long digest) (payloads : List (List ℕ)) where
  node_long : (level i : ℕ) → length (node digest payloads level i) ≡ 32
  node_long zero i =
      cond_both (ltb i (length payloads)) (digest (get_or payloads i [])) (replicate 32 0) (λ (x : List ℕ). length x ≡ 32)
      (λ _. long (get_or payloads i [])) (λ _. refl)
  node_long (suc level) i = long (node digest payloads level (2 * i) ++ node digest payloads level (2 * i + 1))

  -- the node above a place and the one beside it
  above_both : (level i : ℕ) → above digest (i % 2) (node digest payloads level i) (node digest payloads level (beside i)) ≡ node digest payloads (suc level) (i / 2)
  above_both level i =
      ⊎_elim
      (λ (e : i % 2 ≡ 0).
      let a : 2 * (i / 2) ≡ i = omega arith in
      simp (eq-eqb (i % 2) 0 e, a))
      (λ (n : i % 2 ≡ 0 → ⊥).
      let a : 2 * (i / 2) ≡ i - 1 = omega arith in
      let b : i - 1 + 1 ≡ i = omega arith in
      simp (ne_eqb (i % 2) 0 n, a, b))
      (cases_eq (i % 2) 0)

  module _ (few : length payloads ≤ 2 ^ 32) (j : ℕ) (h : j < length payloads) where
    abbrev siblings : List ℕ
    siblings = flat_map (λ level. node digest payloads level (beside (j / 2 ^ level))) (range_with_len 0 (levels payloads))

    level : Level (λ level. node digest payloads level (beside (j / 2 ^ level))) 32 0 (range_with_len 0 (levels payloads))
    level i k = node_long (get_or (range_with_len 0 (levels payloads)) i 0) _

    siblings_long : length siblings ≡ 32 * levels payloads
    siblings_long =
        length-joined (λ level. node digest payloads level (beside (j / 2 ^ level))) 32 0 (range_with_len 0 (levels payloads)) level
        ∙ simp length-range_with_len (mul_comm (levels payloads) 32)

    sibling : (l : ℕ) → l < levels payloads → take 32 (drop (32 * l) siblings) ≡ node digest payloads l (beside (j / 2 ^ l))
    sibling l k =
        let n : l < length (range_with_len 0 (levels payloads)) = simp length-range_with_len k in
        let at : get_or (range_with_len 0 (levels payloads)) l 0 ≡ l = get_or-range_with_len 0 (levels payloads) l 0 k ∙ zero-add l in
        ap (λ (i : ℕ). take 32 (drop i siblings)) (mul_comm 32 l)
        ∙ part_joined (λ level. node digest payloads level (beside (j / 2 ^ level))) 32 0 (range_with_len 0 (levels payloads)) l level n
        ∙ ap (λ (i : ℕ). node digest payloads i (beside (j / 2 ^ i))) at

    climbs : (l : ℕ) → l ≤ levels payloads → climbed digest (leaf digest payloads j) j siblings l ≡ node digest payloads l (j / 2 ^ l)
    climbs zero k = ap (leaf digest payloads) (sym (div-one j))
    climbs (suc l) k =
        let below = climbs l (omega arith) in
        let beside-it = sibling l (omega arith) in
        let half : j / 2 ^ l / 2 ≡ j / 2 ^ suc l = simp add-one at (shr-shr j l 1) in
        simp (below, beside-it) (above_both l (j / 2 ^ l)) ∙ ap (node digest payloads (suc l)) half

    top : climbed digest (leaf digest payloads j) j siblings (levels payloads) ≡ root digest payloads
    top =
        let room : length payloads - 1 < 2 ^ levels payloads = depth_enough (length payloads - 1) (omega arith) in
        climbs (levels payloads) (omega arith) ∙ ap (node digest payloads (levels payloads)) (div-eq_of_lt (omega arith))

    module _ (full : 0 < length (get_or payloads j [])) where
      size : length (shard digest payloads j) - 32 * levels payloads ≡ length (get_or payloads j [])
      size = omega (arith, length-append (get_or payloads j []) siblings, siblings_long)

      pub front : payload (levels payloads) (shard digest payloads j) ≡ get_or payloads j []
      front = take_at (get_or payloads j []) siblings (length (shard digest payloads j) - 32 * levels payloads) (sym size)

      back : path (levels payloads) (shard digest payloads j) ≡ siblings
      back = drop_at (get_or payloads j []) siblings (length (shard digest payloads j) - 32 * levels payloads) (sym size)

      leaf_is : digest (get_or payloads j []) ≡ leaf digest payloads j
      leaf_is = simp (lt-ltb j (length payloads) h)

      leads : climbed digest (digest (payload (levels payloads) (shard digest payloads j))) j (path (levels payloads) (shard digest payloads j)) (levels payloads) ≡ root digest payloads
      leads =
          ap (λ (p : List ℕ). climbed digest (digest p) j (path (levels payloads) (shard digest payloads j)) (levels payloads)) front
          ∙ ap (λ (q : List ℕ). climbed digest (digest (get_or payloads j [])) j q (levels payloads)) back
          ∙ ap (λ (x : List ℕ). climbed digest x j siblings (levels payloads)) leaf_is
          ∙ top

      pub stands : rooted digest (levels payloads) (root digest payloads) j (shard digest payloads j) ≡ true
      stands =
          let some : 0 < length (payload (levels payloads) (shard digest payloads j)) = subst (λ (p : List ℕ). 0 < length p) (sym front) full in
          and_from _ _ (lt-ltb 0 (length (payload (levels payloads) (shard digest payloads j))) some)
          ((bytes_eq-Decides _ (root digest payloads)).1 leads)
