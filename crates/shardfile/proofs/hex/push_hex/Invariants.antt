-- What was read so far stands behind what was there.
use Rattle.std.proofs.Common.{vec_items, vec_len}
use Rattle.shardfile.specs.Hex.{Reads}
use Rattle.shardfile.proofs.hex.push_hex.Given as goal

abbrev pub invariant-loop-high : goal.invariant-loop-high
invariant-loop-high l = Reads (vec_items l.initial.out) (vec_len l.initial.out) l.word l.high-index (vec_items l.out) (vec_len l.out)
