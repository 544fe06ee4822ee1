use Rattle.enough.proofs.Shown.{example}
use Rattle.enough.proofs.example.example_stands.Goals as goal

pub returns : goal.returns
returns c = example
