use Rattle.sha3.proofs.Examples.{abc, bits1600, empty}
use Rattle.sha3.proofs.examples_stand.Goals as goal

pub returns : goal.returns
returns c = (empty, abc, bits1600)
