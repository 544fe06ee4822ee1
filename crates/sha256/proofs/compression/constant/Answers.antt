use Rattle.std.proofs.Common.{refl}
use Rattle.sha256.specs.Fips180.{K}
use Rattle.sha256.proofs.compression.constant.Goals as goal

pub returns : goal.returns
unfolding K
returns c = refl
