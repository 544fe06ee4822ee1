use Rattle.runs.proofs.Given.{always_handed_in}
use Rattle.runs.proofs.blocks_were_handed_in.Goals as goal

pub returns : goal.returns
returns c = always_handed_in
