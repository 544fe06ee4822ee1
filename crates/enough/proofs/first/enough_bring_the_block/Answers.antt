use Rattle.enough.proofs.Enough.{brought}
use Rattle.enough.proofs.first.enough_bring_the_block.Goals as goal

pub returns : goal.returns
returns c = brought
