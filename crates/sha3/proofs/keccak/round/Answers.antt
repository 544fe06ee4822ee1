use Rattle.sha3.specs.Fips202.{Rnd}
use Rattle.sha3.proofs.keccak.round.Goals as goal

pub returns : goal.returns
unfolding Rnd
returns c = cc
