use Rattle.std.proofs.Common.{refl}
use Rattle.sha256.specs.Fips180.{Ch, H⁰, K, Maj, bit_length, bytes, compress, hashes, next, padding, round, rounds, schedule, sha256, sums, word, words, zeros, Σ0, Σ1, σ0, σ1}
use Rattle.sha256.proofs.examples_stand.Goals as goal

pub returns : goal.returns
unfolding Ch H⁰ K Maj bit_length bytes compress hashes next padding round rounds schedule sha256 sums word words zeros Σ0 Σ1 σ0 σ1
returns c = (refl, refl, refl)
