use Rattle.std.proofs.Common.{rules}
use Rattle.std.proofs.lemmas.Slice.{overwrites}
use Rattle.rosters.proofs.members.slots.Goals as goal

pub returns : goal.returns
returns c = search (rules, overwrites)
