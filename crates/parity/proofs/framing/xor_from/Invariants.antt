-- The bytes so far are the exclusive ors.
use Rattle.std.proofs.Common.{◌≡◌, ℕ, ◌+◌, ◌<◌, map, get_or}
use Rattle.parity.specs.Parities.{xored}
use Rattle.parity.proofs.framing.xor_from.Given as goal

abbrev pub invariant-loop-k : goal.invariant-loop-k
invariant-loop-k l = (i : ℕ) → i < l.k → get_or l.out i 0 ≡ xored (l.at + i) (map (λ x. x.now) l.picks)
