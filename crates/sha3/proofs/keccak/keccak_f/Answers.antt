use Rattle.std.proofs.Common.{refl, rules}
use Rattle.sha3.specs.Fips202.{keccak_f, rounds}
use Rattle.sha3.proofs.Calls.{folded}
use Rattle.sha3.proofs.keccak.keccak_f.Goals as goal

pub returns : goal.returns
unfolding keccak_f rounds
returns c =
    folded _ (λ k. rounds k c.args.state) _ 24 (λ k r f' low call. search rules) _ c.fold.result refl refl c.fold.ensures.ran
