use Rattle.listed.specs.Exactly.{found, read_back, was_written}
use Rattle.listed.proofs.exact.listed_reading_is_exact.Goals as goal

pub returns : goal.returns
returns c = (
  λ digest context parent height entries rest h. (read_back digest context parent height entries rest h, found digest context parent height entries rest h),
  λ digest blob r b. was_written digest blob b r,
)
