use Rattle.runs.proofs.Rolls.{aligned}
use Rattle.runs.proofs.rolls_follow.Goals as goal

pub returns : goal.returns
returns c = aligned
