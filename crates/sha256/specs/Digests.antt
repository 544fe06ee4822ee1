-- A digest is 32 bytes, whatever the message. Assumes nothing.
use Rattle.std.specs.Prelude.{◌≡◌, ℕ, ◌-◌, ◌*◌, ◌/◌, ◌%◌, ◌^◌, ◌<◌, List, length, slice_index, refl}
use Rattle.std.proofs.Common.{⊎_elim, zero-add, arith}
use Rattle.std.proofs.lemmas.Nat.{mod_below}
use Rattle.std.proofs.lemmas.List.FromFn.{get_or-map-range_with_len}
use Rattle.std.proofs.lemmas.List.{get_or_past}
use Rattle.std.proofs.lemmas.Bool.{cases_lt}
use Rattle.sha256.specs.Fips180.{byte_of, bytes, hashes, padded, sha256}

pub digest_long : (m : List ℕ) → length (sha256 m) ≡ 32
unfolding sha256 bytes
digest_long m = refl

pub digest-bytes : (m : List ℕ) (k : ℕ) → slice_index (sha256 m) k < 256
unfolding sha256 bytes
digest-bytes m k =
    let H = hashes (length (padded m) / 64) (padded m) in
    ⊎_elim
    (λ l. omega (arith, get_or-map-range_with_len (byte_of H) 0 32 k k 0 l (zero-add k), mod_below (slice_index H (k / 4) / 2 ^ (8 * (3 - k % 4))) 256 (omega arith)))
    (λ l. omega (arith, get_or_past (bytes H) k 0 l))
    (cases_lt k 32)
