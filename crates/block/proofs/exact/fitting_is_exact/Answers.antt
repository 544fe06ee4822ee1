use Rattle.block.proofs.Whole.{whole}
use Rattle.block.proofs.exact.fitting_is_exact.Goals as goal

pub returns : goal.returns
returns c = whole
