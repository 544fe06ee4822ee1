use Rattle.block.proofs.Fronts.{head_read, head-written}
use Rattle.block.proofs.exact.head_reading_is_exact.Goals as goal

pub returns : goal.returns
returns c = (λ context parent height rest h. head_read context parent height h rest, head-written)
