use Rattle.std.proofs.Common.{refl, lit<}
use Rattle.choice.specs.declared.schemes.SchemeChoice.TheVariants.{Copy, Parity}
use Rattle.choice.proofs.schemes.SchemeChoiceChoice.all.Goals as goal

pub returns : goal.returns
returns c = elim [ Copy ↦ (0, lit< tt, refl) | Parity ↦ (1, lit< tt, refl) ]
