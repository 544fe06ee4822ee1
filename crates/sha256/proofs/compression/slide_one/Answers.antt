use Rattle.sha256.specs.Fips180.{next}
use Rattle.sha256.specs.Window.{slide}
use Rattle.sha256.proofs.compression.slide_one.Goals as goal

pub returns : goal.returns
unfolding slide next
returns c = simp (c.small_sigma1.ensures, c.small_sigma0.ensures)
