-- The picks so far stand at the front.
use Rattle.std.proofs.Common.{◌≡◌, map, length, take}
use Rattle.std.specs.List.{range_with_len}
use Rattle.scheme.specs.Pieces.{indexed}
use Rattle.parity.specs.Parities.{pick}
use Rattle.parity.proofs.picks.picks.Given as goal

abbrev pub invariant-loop-index : goal.invariant-loop-index
invariant-loop-index l =
    (length l.found ≡ 64)
    × (map (λ x. x.now) (take l.index l.found) ≡ map (pick l.levels (map indexed l.shards)) (range_with_len 0 l.index))
