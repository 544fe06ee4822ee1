use Rattle.std.proofs.Common.{refl}
use Rattle.sha256.specs.Fips180.{Ch}
use Rattle.sha256.proofs.words.ch.Goals as goal

pub returns : goal.returns
unfolding Ch
returns c = refl
