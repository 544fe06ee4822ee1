use Rattle.std.proofs.Common.{◌+◌, ◌-◌, ◌%◌, ◌^◌, bit_and, arith, rules}
use Rattle.sha3.specs.Fips202.{◌⊕◌, at, χ}
use Rattle.sha3.proofs.Lanes.{lanes_from}
use Rattle.sha3.proofs.keccak.chi.Goals as goal

pub returns : goal.returns
unfolding χ
returns c =
    let A = c.args.a in
    lanes_from (λ x y. at A x y ⊕ bit_and ((2 ^ 64 - 1) - at A ((x + 1) % 5) y) (at A ((x + 2) % 5) y))
    c.lanes.result (omega arith) (λ x y low high. let made = c.lanes.ensures x y low high in search rules)
