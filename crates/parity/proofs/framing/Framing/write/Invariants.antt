-- The bytes so far stand at the front, and the rest as it was.
use Rattle.std.proofs.Common.{◌≡◌, ◌-◌, ◌≤◌, drop}
use Rattle.std.proofs.Math.Seq.{paste}
use Rattle.parity.specs.Framings.{framed_in}
use Rattle.parity.proofs.framing.Framing.write.Given as goal

abbrev pub invariant-loop-done : goal.invariant-loop-done
invariant-loop-done l =
    (l.done ≤ l.len)
    × (l.place ≡ paste l.initial.place 0 (drop 4 (framed_in l.self)) l.done)

abbrev pub decreases-loop-done : goal.decreases-loop-done
decreases-loop-done l = l.len - l.done
