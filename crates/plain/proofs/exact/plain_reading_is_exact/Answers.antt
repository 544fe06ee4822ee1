use Rattle.plain.specs.Exactly.{found, read_back, was_written}
use Rattle.plain.proofs.exact.plain_reading_is_exact.Goals as goal

pub returns : goal.returns
returns c =
    (λ digest context parent height payload rest h. (read_back digest context parent height payload rest h, found digest context parent height payload rest h), was_written)
