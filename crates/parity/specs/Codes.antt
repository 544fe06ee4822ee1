-- Making shards of a blob, and what the scheme is for. Assumes nothing.
use Rattle.std.specs.Prelude.{◌≡◌, ℕ, ◌*◌, ◌^◌, ◌<◌, ◌≤◌, Bool, true, false, not, ◌&&◌, ◌||◌, List, [], ◌∷◌, ◌++◌, map, length, take, drop, Ok, ◌==◌}
use Rattle.std.specs.List.{range_with_len, AllByRecursion}
use Rattle.register.specs.declared.commitment.Config.{Config}
use Rattle.scheme.specs.Pieces.{Indexed}
use Rattle.tree.specs.Frames.{framed, piece_length}
use Rattle.tree.specs.Laws.{Long}
use Rattle.tree.specs.Trees.{root, shard}
use Rattle.parity.specs.Parities.{parity_good, parity_opens, xored}

-- the framed blob in k pieces
abbrev pub pieces : ℕ → List ℕ → List (List ℕ)
pieces k blob =
    map (λ j. take (piece_length k (length blob)) (drop (j * piece_length k (length blob)) (framed k blob))) (range_with_len 0 k)

-- and their exclusive or
abbrev pub parity : ℕ → List ℕ → List ℕ
parity k blob = map (λ i. xored i (pieces k blob)) (range_with_len 0 (piece_length k (length blob)))

abbrev pub payloads : ℕ → List ℕ → List (List ℕ)
payloads k blob = pieces k blob ++ parity k blob ∷ []

abbrev pub made : (List ℕ → List ℕ) → ℕ → List ℕ → ℕ → Indexed
made digest k blob j = record { index = j; bytes = shard digest (payloads k blob) j }

abbrev pub has : ℕ → List ℕ → Bool
has i [] = false
has i (j ∷ js) = j == i || has i js

abbrev pub distinct : List ℕ → Bool
distinct [] = true
distinct (j ∷ js) = not (has j js) && distinct js

-- of a blob that a length of four bytes and the limit allow, each shard is good, and any k of them, in any order, open to it
abbrev pub ParityIsACode : Type 0
ParityIsACode =
    (digest : List ℕ → List ℕ) → Long digest
    → (config : Config) → config.extra ≡ 1 → 1 ≤ config.minimum → config.minimum ≤ 63
    → (blob : List ℕ) → length blob < 2 ^ 32 → (limit : ℕ) → length blob ≤ limit
    → ((j : ℕ) → j ≤ config.minimum → parity_good digest config (root digest (payloads config.minimum blob)) j (shard digest (payloads config.minimum blob) j) ≡ true)
    × ((js : List ℕ) → distinct js ≡ true → AllByRecursion (λ j. j ≤ config.minimum) js → config.minimum ≤ length js
    → parity_opens config limit (map (made digest config.minimum blob) js) ≡ Ok blob)
