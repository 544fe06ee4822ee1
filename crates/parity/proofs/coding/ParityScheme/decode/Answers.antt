use Rattle.std.proofs.Common.{map, length}
use Rattle.scheme.specs.Pieces.{indexed}
use Rattle.parity.proofs.Unframing.{opens_picks}
use Rattle.parity.proofs.coding.ParityScheme.decode.Goals as goal

pub returns : goal.returns
returns g c =
    record {
      tells = opens_picks (λ x. x.now) c.picks-found.result c.args.coding.config (length c.args.place.now) c.from.result (map indexed c.args.shards.now) _ c.if-not-shaped.ensures c.from.ensures c.picks-found.ensures c.open.ensures.tells;
      within = c.open.ensures.within;
      behind = c.open.ensures.behind;
    }
