use Rattle.std.proofs.Common.{◌≡◌, ℕ, ◌<◌, ◌≤◌, length, get_or}
use Rattle.sha3.specs.Fips202.{padded, xored_lane}
use Rattle.sha3.proofs.sponge.absorb.Given as goal

abbrev pub invariant-loop-l : goal.invariant-loop-l
invariant-loop-l l =
    (length l.lane-items ≡ 17)
    × ((k : ℕ) → k < l.l → get_or l.lane-items k 0 ≡ xored_lane l.fn.state (padded l.message) 0 k)
    × ((k : ℕ) → l.l ≤ k → k < 17 → get_or l.lane-items k 0 ≡ get_or l.fn.state k 0)
