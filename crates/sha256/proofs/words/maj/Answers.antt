use Rattle.std.proofs.Common.{refl}
use Rattle.sha256.specs.Fips180.{Maj}
use Rattle.sha256.proofs.words.maj.Goals as goal

pub returns : goal.returns
unfolding Maj
returns c = refl
