use Rattle.parity.proofs.Making.{good}
use Rattle.parity.proofs.Mending.{opens_shaped}
use Rattle.parity.proofs.law.parity_is_a_code.Goals as goal

pub returns : goal.returns
returns c =
    λ digest long config extra some few blob fits limit room. (
      good digest long config extra some few blob,
      opens_shaped digest long config extra some few blob fits limit room,
    )
