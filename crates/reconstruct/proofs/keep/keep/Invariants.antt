use Rattle.reconstruct.proofs.Passing.{Passing}
use Rattle.reconstruct.proofs.keep.keep.Given as goal

abbrev pub invariant-loop-i : goal.invariant-loop-i
invariant-loop-i l = Passing l.initial.shards l.shards l.verdicts l.count l.i
