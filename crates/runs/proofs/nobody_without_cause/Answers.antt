use Rattle.runs.proofs.Causes.{never_without_cause}
use Rattle.runs.proofs.nobody_without_cause.Goals as goal

pub returns : goal.returns
returns c = never_without_cause
