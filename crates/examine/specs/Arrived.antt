-- The shards in a file, in the order in which they came. Assumes nothing.
use Rattle.std.specs.Prelude.{List, map, vec_items}
use Rattle.scheme.specs.Pieces.{Indexed}
use Rattle.shardfile.specs.declared.file.Arrival.{Arrival}

abbrev pub shard_of : Arrival → Indexed
shard_of a = record { index = a.index; bytes = vec_items a.bytes }

abbrev pub shards_of : List Arrival → List Indexed
shards_of arrivals = map shard_of arrivals
