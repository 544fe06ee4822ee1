-- What a framing stands for: the framed blob in its picks. Assumes nothing.
use Rattle.std.specs.Prelude.{ℕ, ◌-◌, ◌*◌, List, map, length}
use Rattle.parity.specs.declared.framing.Framing.{Framing}
use Rattle.parity.specs.Parities.{framing}

abbrev pub framed_in : Framing → List ℕ
framed_in f = framing f.width (map (λ x. x.now) f.picks.now)

-- how long that is
abbrev pub size : Framing → ℕ
size f = (length f.picks.now - 1) * f.width
