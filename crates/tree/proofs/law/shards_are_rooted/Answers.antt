use Rattle.tree.proofs.Standing.{stands}
use Rattle.tree.proofs.law.shards_are_rooted.Goals as goal

pub returns : goal.returns
returns c = λ digest long payloads few j h full. stands digest long payloads few j h full
