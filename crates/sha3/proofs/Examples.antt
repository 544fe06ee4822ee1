-- The worked examples, computed.
use Rattle.std.proofs.Common.{refl}
use Rattle.sha3.specs.Fips202.{θ, offsets, ρ, π, χ, RC, ι, Rnd, rounds, keccak_f, padded, xored, absorbed, squeezed, sha3_256}
use Rattle.sha3.specs.Examples.{Abc, Bits1600, Empty}

pub empty : Empty
unfolding θ offsets ρ π χ RC ι Rnd rounds keccak_f padded xored absorbed squeezed sha3_256
empty = refl

pub abc : Abc
unfolding θ offsets ρ π χ RC ι Rnd rounds keccak_f padded xored absorbed squeezed sha3_256
abc = refl

pub bits1600 : Bits1600
unfolding θ offsets ρ π χ RC ι Rnd rounds keccak_f padded xored absorbed squeezed sha3_256
bits1600 = refl
