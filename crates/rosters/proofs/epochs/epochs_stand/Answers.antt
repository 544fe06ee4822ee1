use Rattle.rosters.specs.Switched.{epoch_laws}
use Rattle.rosters.proofs.epochs.epochs_stand.Goals as goal

pub returns : goal.returns
returns c = epoch_laws
