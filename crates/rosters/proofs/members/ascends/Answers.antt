use Rattle.std.proofs.Common.{rules}
use Rattle.std.proofs.lemmas.Fn.{always_returns_same}
use Rattle.rosters.proofs.Scans.{less, rises_is}
use Rattle.rosters.proofs.members.ascends.Goals as goal

pub returns : goal.returns
returns c =
    rises_is c.args.keys.now c.is_sorted_by.result (c.is_sorted_by.ensures.cases less (always_returns_same _ _ _ (λ a r f' k. search rules)))
