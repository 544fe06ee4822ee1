use Rattle.tree.proofs.Depth.{depth_enough, depth_least}
use Rattle.tree.proofs.law.depth_is_least.Goals as goal

pub returns : goal.returns
returns c = λ last h. (depth_enough last h, depth_least last h)
