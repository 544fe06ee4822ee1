-- What the frame and the tree are for: a framed blob is read back, and a shard that was made leads to the root. Assumes nothing.
use Rattle.std.specs.Prelude.{◌≡◌, ℕ, ◌^◌, ◌<◌, ◌≤◌, true, List, [], length, Ok, slice_index_or}
use Rattle.tree.specs.Frames.{framed, piece_length, unframed}
use Rattle.tree.specs.Trees.{depth, levels, root, rooted, shard}

-- digests of 32 bytes
abbrev pub Long : (List ℕ → List ℕ) → Type 0
Long digest = (m : List ℕ) → length (digest m) ≡ 32

abbrev pub ShardsAreRooted : Type 0
ShardsAreRooted =
    (digest : List ℕ → List ℕ) → Long digest → (payloads : List (List ℕ)) → length payloads ≤ 2 ^ 32
    → (j : ℕ) → j < length payloads → 0 < length (slice_index_or payloads j [])
    → rooted digest (levels payloads) (root digest payloads) j (shard digest payloads j) ≡ true

abbrev pub FramesOpen : Type 0
FramesOpen =
    (k : ℕ) → 1 ≤ k → (blob : List ℕ) → length blob < 2 ^ 32 → (limit : ℕ) → length blob ≤ limit
    → unframed limit k (piece_length k (length blob)) (framed k blob) ≡ Ok blob

-- the depth has room for the last leaf, and no less has
abbrev pub DepthIsLeast : Type 0
DepthIsLeast =
    (last : ℕ) → last < 2 ^ 32 → (last < 2 ^ depth last) × ((d : ℕ) → last < 2 ^ d → depth last ≤ d)
