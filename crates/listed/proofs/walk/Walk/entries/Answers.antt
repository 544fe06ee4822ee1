use Rattle.std.proofs.Common.{sym, ◌∙◌, arith}
use Rattle.listed.specs.Walking.{ends, steps, stops}
use Rattle.listed.proofs.walk.Walk.entries.Goals as goal

pub returns-in_err-walk : goal.returns-in_err-walk
returns-in_err-walk g c =
    c.from_residual.ensures
    ∙ sym (stops (g.D.Hash.digest c.args.hash.now) c.args.blob.now c.args.count c.loop.counter c.loop.walk (omega arith) c.in_err-walk.ensures)
    ∙ c.loop.invariant

pub loop-preserved : goal.loop-preserved
loop-preserved g c =
    steps (g.D.Hash.digest c.args.hash.now) c.args.blob.now c.args.count c.loop.counter c.loop.walk (omega arith) c.in_ok-walk.walk c.in_ok-walk.ensures
    ∙ c.loop.invariant

pub returns : goal.returns
returns g c =
    sym (ends (g.D.Hash.digest c.args.hash.now) c.args.blob.now c.args.count c.loop.counter c.loop.walk (omega arith))
    ∙ c.loop.invariant
