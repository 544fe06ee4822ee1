use Rattle.std.proofs.Common.{◌+◌, ◌*◌, ◌%◌, arith, rules}
use Rattle.sha3.specs.Fips202.{at, π}
use Rattle.sha3.proofs.Lanes.{lanes_from}
use Rattle.sha3.proofs.keccak.pi.Goals as goal

pub returns : goal.returns
unfolding π
returns c =
    lanes_from (λ x y. at c.args.a ((x + 3 * y) % 5) x)
    c.lanes.result (omega arith) (λ x y low high. let made = c.lanes.ensures x y low high in search rules)
