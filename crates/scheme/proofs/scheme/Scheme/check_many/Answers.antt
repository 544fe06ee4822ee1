use Rattle.std.proofs.Common.{◌≡◌, length, arith}
use Rattle.scheme.proofs.Verdicts.{verdicts_more, verdicts_all, verdicts_short}
use Rattle.scheme.proofs.scheme.Scheme.check_many.Goals as goal

pub returns-then-shards-verdicts-clause-judges : goal.returns-then-shards-verdicts-clause-judges
returns-then-shards-verdicts-clause-judges g c = verdicts_short _ _ _ c.if-shards-verdicts.true

pub loop-i-preserved : goal.loop-i-preserved
loop-i-preserved g c =
    verdicts_more _ _ _ _ _ _ _ c.loop-i-test.true c.if-shards-verdicts.false c.loop-i.invariant c.check.ensures

pub returns-clause-judges : goal.returns-clause-judges
returns-clause-judges g c =
    let done : length c.args.shards.now ≡ c.loop-i.i = omega arith in
    verdicts_all _ _ _ _ c.loop-i.i done c.if-shards-verdicts.false c.loop-i.invariant
