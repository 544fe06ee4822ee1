-- A digest is 32 bytes.
use Rattle.std.specs.Prelude.{◌≡◌, ℕ, ◌<◌, List, length, slice_index, refl}
use Rattle.std.proofs.Common.{⊎_elim, arith}
use Rattle.std.proofs.lemmas.List.FromFn.{get_or-map-range_with_len}
use Rattle.std.proofs.lemmas.List.{get_or_past}
use Rattle.std.proofs.lemmas.Bool.{cases_lt}
use Rattle.sha3.specs.Fips202.{sha3_256, squeezed, squeezed_byte}

squeezed_long : (S : List ℕ) → length (squeezed S) ≡ 32
unfolding squeezed
squeezed_long S = refl

squeezed-at : (S : List ℕ) (k : ℕ) → k < 32 → slice_index (squeezed S) k ≡ squeezed_byte S k
unfolding squeezed
squeezed-at S k low = get_or-map-range_with_len (squeezed_byte S) 0 32 k k 0 low (omega arith)

squeezed-bytes : (S : List ℕ) (k : ℕ) → slice_index (squeezed S) k < 256
squeezed-bytes S k =
    ⊎_elim
    (λ low. let e = squeezed-at S k low in omega arith)
    (λ high. let e = get_or_past (squeezed S) k 0 (rw squeezed_long high) in omega arith)
    (cases_lt k 32)

pub digest_long : (M : List ℕ) → length (sha3_256 M) ≡ 32
unfolding sha3_256
digest_long M = squeezed_long _

pub digest-bytes : (M : List ℕ) (k : ℕ) → slice_index (sha3_256 M) k < 256
unfolding sha3_256
digest-bytes M k = squeezed-bytes _ k
