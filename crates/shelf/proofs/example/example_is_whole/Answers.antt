use Rattle.shelf.proofs.Shown as shown
use Rattle.shelf.proofs.example.example_is_whole.Goals as goal

pub returns : goal.returns
returns c = shown.example_is_whole
