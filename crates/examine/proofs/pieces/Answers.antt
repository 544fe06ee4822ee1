use Rattle.std.proofs.Common.{rules}
use Rattle.std.proofs.lemmas.Iterator.{YieldsList-from_map_by, YieldsList-from_slice}
use Rattle.std.proofs.lemmas.Iterator.Consumers.{map_from_collect}
use Rattle.scheme.specs.Pieces.{indexed}
use Rattle.examine.specs.Arrived.{shard_of}
use Rattle.examine.proofs.pieces.Goals as goal

pub returns : goal.returns
returns c =
    map_from_collect _ c.collect.ensures.ran (YieldsList-from_map_by _ indexed shard_of (YieldsList-from_slice c.args.arrivals.now cc) c.map.ensures.closure (λ x r q k. search rules))
