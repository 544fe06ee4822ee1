use Rattle.std.proofs.Common.{◌+◌, ◌/◌, length, refl, ◌∙◌, arith, rules}
use Rattle.sha3.specs.Fips202.{absorbed, padded}
use Rattle.sha3.proofs.Absorbing.{one_block}
use Rattle.sha3.proofs.Calls.{folded}
use Rattle.sha3.proofs.sponge.absorb_all.Goals as goal

pub returns : goal.returns
unfolding absorbed
returns c =
    let M = c.args.message.now in
    folded _ (absorbed (padded M)) _ (length M / 136 + 1)
    (λ i S f' low call. (search rules ∙ one_block M (absorbed (padded M) i) i (omega arith), search rules))
    _ c.fold.result refl (omega arith) c.fold.ensures.ran
