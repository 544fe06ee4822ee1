-- What is left to walk ends as the whole does.
use Rattle.std.proofs.Common.{◌≡◌, ◌-◌}
use Rattle.listed.specs.Listeds.{walked}
use Rattle.listed.proofs.walk.Walk.entries.Given as goal

abbrev pub invariant-loop : goal.invariant-loop
invariant-loop g l =
    walked (g.D.Hash.digest l.hash) l.blob (l.count - l.counter) l.walk ≡ walked (g.D.Hash.digest l.hash) l.blob l.count l.initial.walk
