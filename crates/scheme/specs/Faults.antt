-- The number of each fault, in the order in which they are tested. Assumes nothing.
use Rattle.std.specs.Prelude.{ℕ}
use Rattle.scheme.specs.declared.fault.Fault.{Fault}
use Rattle.scheme.specs.declared.fault.Fault.TheVariants.{TooFew, Uneven, BadLength, Padding, TooLong}

abbrev pub fault_number : Fault → ℕ
fault_number TooFew = 1
fault_number Uneven = 2
fault_number BadLength = 3
fault_number Padding = 4
fault_number TooLong = 5
