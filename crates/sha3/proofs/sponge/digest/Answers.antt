use Rattle.std.proofs.Common.{◌++◌, sym, ap, ◌∙◌}
use Rattle.sha3.specs.Fips202.{absorbed, padded, sha3_256, squeezed}
use Rattle.sha3.proofs.Padding.{blocks}
use Rattle.sha3.proofs.sponge.digest.Goals as goal

pub returns : goal.returns
unfolding sha3_256
returns c =
    let M = c.args.first.now ++ c.args.second.now in
    c.squeeze.ensures ∙ ap squeezed (c.absorb_all.ensures ∙ ap (absorbed (padded M)) (sym (blocks M)))
