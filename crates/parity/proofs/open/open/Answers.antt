use Rattle.std.proofs.Common.{◌-◌, map, length}
use Rattle.parity.proofs.Unframing.{evened}
use Rattle.parity.proofs.open.open.Goals as goal

pub returns-clause-tells : goal.returns-clause-tells
returns-clause-tells c =
    evened (length c.args.place.now) (length c.args.picks.now - 1) (map (λ x. x.now) c.args.picks.now) c.count.result c.width-width.result c.count.ensures c.if-count-picks.false c.width-width.ensures c.if-not-even.ensures _ c.unframe.ensures.tells
