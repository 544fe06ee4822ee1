-- How a call tells what shards open to: a blob at the front of a place, or a fault. Assumes nothing.
use Rattle.std.specs.Prelude.{◌≡◌, ℕ, ◌≤◌, List, length, take, drop, Ok, Err, Result}
use Rattle.scheme.specs.declared.fault.Fault.{Fault}

-- a blob, or why there is none
abbrev pub Opened : Type 0
Opened = Result (List ℕ) Fault

abbrev pub told : Result ℕ Fault → List ℕ → Opened
told (Ok n) place = Ok (take n place)
told (Err f) place = Err f

-- how much of the place a call wrote
abbrev pub wrote : Result ℕ Fault → ℕ
wrote (Ok n) = n
wrote (Err f) = 0

-- what it wrote lies within the place as it was before
abbrev pub Fits : Result ℕ Fault → List ℕ → Type 0
Fits result old = wrote result ≤ length old

-- what lies behind that is as it was
abbrev pub Leaves : Result ℕ Fault → List ℕ → List ℕ → Type 0
Leaves result old new = drop (wrote result) new ≡ drop (wrote result) old
