use Rattle.std.proofs.Common.{get_or, set, ap, arith}
use Rattle.std.specs.Int.Bits.{bit_xor}
use Rattle.std.proofs.lemmas.List.FromFn.{get_or-map-range_with_len}
use Rattle.sha3.specs.Fips202.{RC, ι}
use Rattle.sha3.proofs.keccak.iota.Goals as goal

-- The table of the code is RC at 0 .. 23, by computation.
pub returns : goal.returns
unfolding RC ι
returns c =
    ap (λ n. set c.args.a 0 (bit_xor (get_or c.args.a 0 0) n))
    (get_or-map-range_with_len RC 0 24 c.args.ir c.args.ir 0 (omega arith) (omega arith))
