use Rattle.std.proofs.Common.{◌≡◌, ◌+◌, ◌<◌, map, arith}
use Rattle.scheme.specs.Pieces.{indexed}
use Rattle.parity.proofs.Picking.{front_all, front_more}
use Rattle.parity.specs.Parities.{pick}
use Rattle.parity.proofs.picks.picks.Goals as goal

pub loop-index-preserved : goal.loop-index-preserved
loop-index-preserved c =
    let h : c.loop-index.index < 64 = omega arith in
    front_more (λ x. x.now) (pick c.depth-levels.result (map indexed c.args.shards.now)) c.loop-index.found c.loop-index.index c.from-in-loop-index.result c.pick.result c.loop-index.invariant h c.from-in-loop-index.ensures c.pick.ensures

pub returns : goal.returns
returns c =
    let all : c.loop-index.index ≡ c.args.last + 1 = omega arith in
    front_all (λ x. x.now) c.loop-index.found (map indexed c.args.shards.now) c.args.last c.from.result c.depth-levels.result c.loop-index.index all c.from.ensures c.depth-levels.ensures c.loop-index.invariant.1
