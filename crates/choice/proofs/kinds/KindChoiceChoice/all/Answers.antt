use Rattle.std.proofs.Common.{refl, lit<}
use Rattle.choice.specs.declared.kinds.KindChoice.TheVariants.{Plain, Listed}
use Rattle.choice.proofs.kinds.KindChoiceChoice.all.Goals as goal

pub returns : goal.returns
returns c = elim [ Plain ↦ (0, lit< tt, refl) | Listed ↦ (1, lit< tt, refl) ]
