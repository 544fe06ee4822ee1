use Rattle.enough.proofs.Enough.{brought}
use Rattle.runs.proofs.Causes.{never_without_cause}
use Rattle.runs.proofs.Given.{always_handed_in}
use Rattle.promises.proofs.all_hold.Goals as goal

pub returns : goal.returns
returns c limits m a h s roster leads agrees =
    record { enough = brought limits m a h s roster leads agrees; cause = never_without_cause limits m a h s leads; blocks = always_handed_in limits m a h s leads }
