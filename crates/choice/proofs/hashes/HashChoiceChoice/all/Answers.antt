use Rattle.std.proofs.Common.{refl, lit<}
use Rattle.choice.specs.declared.hashes.HashChoice.TheVariants.{Sha256, Sha3}
use Rattle.choice.proofs.hashes.HashChoiceChoice.all.Goals as goal

pub returns : goal.returns
returns c = elim [ Sha256 ↦ (0, lit< tt, refl) | Sha3 ↦ (1, lit< tt, refl) ]
