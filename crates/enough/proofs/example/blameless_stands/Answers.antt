use Rattle.enough.proofs.Shown.{blameless}
use Rattle.enough.proofs.example.blameless_stands.Goals as goal

pub returns : goal.returns
returns c = blameless
