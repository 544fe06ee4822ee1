use Rattle.std.proofs.Common.{arith, rules, ◌∙◌, ◌≡◌}
use Rattle.std.specs.Int.{rotate_left, w64}
use Rattle.sha3.specs.Fips202.{at, offsets, rot, ρ}
use Rattle.sha3.proofs.Lanes.{lanes_from, offset_low, turned}
use Rattle.sha3.proofs.keccak.rho.Goals as goal

pub returns : goal.returns
unfolding ρ offsets
returns c =
    lanes_from (λ x y. rot (at c.args.a x y) (at offsets x y))
    c.lanes.result (omega arith)
    (λ x y low high. let made = c.lanes.ensures x y low high in
    let a : at c.lanes.result x y ≡ rotate_left w64 (at c.args.a x y) (at offsets x y) = search rules in
    a ∙ turned (at c.args.a x y) (at offsets x y) (search rules) (offset_low x y low high))
