-- Hash trees: a leaf is the digest of a payload, a node that of its left child and then its right. Assumes nothing.
use Rattle.std.specs.Prelude.{ℕ, zero, suc, ◌+◌, ◌-◌, ◌*◌, ◌/◌, ◌%◌, ◌^◌, Bool, cond, ◌&&◌, List, [], ◌++◌, length, take, drop, replicate, ◌==◌, nat_lt, slice_index_or}
use Rattle.std.specs.Int.Count.{count_leading_zeros}
use Rattle.std.specs.List.{range_with_len, flat_map}
use Rattle.std.specs.Str.{bytes_eq}

-- the levels above the leaves 0 to last: how many binary digits last has, so the least d with last < 2 ^ d
abbrev pub depth : ℕ → ℕ
depth last = 32 - count_leading_zeros 32 last

-- a shard under d levels: its payload, and behind that the siblings, 32 bytes each, lowest first
abbrev pub payload : ℕ → List ℕ → List ℕ
payload d shard = take (length shard - 32 * d) shard

abbrev pub path : ℕ → List ℕ → List ℕ
path d shard = drop (length shard - 32 * d) shard

-- the node above a child and its sibling: the child is the left one where its bit is 0
abbrev pub above : (List ℕ → List ℕ) → ℕ → List ℕ → List ℕ → List ℕ
above digest bit child sibling = cond (bit == 0) (digest (child ++ sibling)) (digest (sibling ++ child))

-- the node that a leaf and its path lead to after so many levels, by the index's bits from the lowest
abbrev pub climbed : (List ℕ → List ℕ) → List ℕ → ℕ → List ℕ → ℕ → List ℕ
climbed digest leaf index siblings zero = leaf
climbed digest leaf index siblings (suc level) =
    above digest (index / 2 ^ level % 2) (climbed digest leaf index siblings level) (take 32 (drop (32 * level) siblings))

-- a shard has a payload, and leads from its index to the root
abbrev pub rooted : (List ℕ → List ℕ) → ℕ → List ℕ → ℕ → List ℕ → Bool
rooted digest d root index shard =
    nat_lt 0 (length (payload d shard)) && bytes_eq (climbed digest (digest (payload d shard)) index (path d shard) d) root

-- the tree over a list of payloads: leaves past its end are 32 zeros
abbrev pub leaf : (List ℕ → List ℕ) → List (List ℕ) → ℕ → List ℕ
leaf digest payloads i = cond (nat_lt i (length payloads)) (digest (slice_index_or payloads i [])) (replicate 32 0)

-- the node at place i of a level; level 0 is the leaves
abbrev pub node : (List ℕ → List ℕ) → List (List ℕ) → ℕ → ℕ → List ℕ
node digest payloads zero i = leaf digest payloads i
node digest payloads (suc level) i = digest (node digest payloads level (2 * i) ++ node digest payloads level (2 * i + 1))

abbrev pub levels : List (List ℕ) → ℕ
levels payloads = depth (length payloads - 1)

abbrev pub root : (List ℕ → List ℕ) → List (List ℕ) → List ℕ
root digest payloads = node digest payloads (levels payloads) 0

-- the place beside i under one node
abbrev pub beside : ℕ → ℕ
beside i = cond (i % 2 == 0) (i + 1) (i - 1)

-- shard j of a list of payloads
abbrev pub shard : (List ℕ → List ℕ) → List (List ℕ) → ℕ → List ℕ
shard digest payloads j =
    slice_index_or payloads j [] ++ flat_map (λ level. node digest payloads level (beside (j / 2 ^ level))) (range_with_len 0 (levels payloads))
