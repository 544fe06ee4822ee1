-- The scheme Parity. Assumes nothing.
use Rattle.std.specs.Prelude.{ℕ, ◌+◌, ◌-◌, Bool, cond, not, ◌&&◌, ◌||◌, List, [], ◌∷◌, map, length, take, Err, fold, count_by, ◌==◌, bit_xor, nat_le, nat_lt, slice_index}
use Rattle.std.specs.List.{range_with_len, flat_map, list_all}
use Rattle.register.specs.declared.commitment.Config.{Config}
use Rattle.scheme.specs.declared.fault.Fault.TheVariants.{TooFew, Uneven}
use Rattle.scheme.specs.Pieces.{Indexed}
use Rattle.scheme.specs.Told.{Opened}
use Rattle.tree.specs.Frames.{unframed}
use Rattle.tree.specs.Trees.{depth, payload, rooted}

-- one extra shard, and 1 to 63 pieces
abbrev pub shaped : Config → Bool
shaped config = config.extra == 1 && (nat_le 1 config.minimum && nat_le config.minimum 63)

-- a shard is good if its index is one of a piece or of the parity, and it leads to the root
abbrev pub parity_good : (List ℕ → List ℕ) → Config → List ℕ → ℕ → List ℕ → Bool
parity_good digest config root index shard =
    shaped config
    && (nat_le index config.minimum && rooted digest (depth config.minimum) root index shard)

abbrev pub empty : List ℕ → Bool
empty p = length p == 0

-- the payload of the first shard of an index that has one, else empty
abbrev pub pick : ℕ → List Indexed → ℕ → List ℕ
pick d [] index = []
pick d (s ∷ ss) index =
    cond (s.index == index && not (empty (payload d s.bytes))) (payload d s.bytes) (pick d ss index)

-- that of each index up to k
abbrev pub picks : ℕ → List Indexed → List (List ℕ)
picks k shards = map (pick (depth k) shards) (range_with_len 0 (k + 1))

abbrev pub counted : List (List ℕ) → ℕ
counted ps = count_by (λ p. not (empty p)) ps

-- the length of the last one that there is
abbrev pub width : List (List ℕ) → ℕ
width ps = fold (λ w p. cond (empty p) w (length p)) 0 ps

-- each one that there is is s long
abbrev pub even : ℕ → List (List ℕ) → Bool
even s ps = list_all (λ p. empty p || length p == s) ps

-- the exclusive or of their bytes at i
abbrev pub xored : ℕ → List (List ℕ) → ℕ
xored i ps = fold (λ x p. bit_xor x (slice_index p i)) 0 ps

-- a pick, or what the others say it was
abbrev pub mended : ℕ → List (List ℕ) → List ℕ → List ℕ
mended s ps p = cond (empty p) (map (λ i. xored i ps) (range_with_len 0 s)) p

-- the framed blob: all but the last, which is the parity, joined
abbrev pub framing : ℕ → List (List ℕ) → List ℕ
framing s ps = flat_map (mended s ps) (take (length ps - 1) ps)

abbrev pub opened : ℕ → ℕ → List (List ℕ) → Opened
opened limit k ps =
    cond (nat_lt (counted ps) k) (Err TooFew)
    (cond (even (width ps) ps) (unframed limit k (width ps) (framing (width ps) ps)) (Err Uneven))

abbrev pub parity_opens : Config → ℕ → List Indexed → Opened
parity_opens config limit shards =
    cond (shaped config) (opened limit config.minimum (picks config.minimum shards)) (Err TooFew)
