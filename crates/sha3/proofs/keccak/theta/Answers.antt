use Rattle.std.proofs.Common.{get_or, ap, ◌∙◌, arith, rules}
use Rattle.sha3.specs.Fips202.{◌⊕◌, at, lanes, θ}
use Rattle.sha3.proofs.Lanes.{lanes_from}
use Rattle.sha3.proofs.keccak.theta.Goals as goal

pub returns : goal.returns
unfolding θ
returns c =
    lanes_from (λ x y. at c.args.a x y ⊕ get_or c.theta_sums-d.result x 0)
    c.lanes.result (omega arith) (λ x y low high. let made = c.lanes.ensures x y low high in search rules)
    ∙ ap (λ d. lanes (λ x y. at c.args.a x y ⊕ get_or d x 0)) c.theta_sums-d.ensures
