-- What holds of a shelf between calls. Assumes nothing.
use Rattle.std.specs.Prelude.{◌≡◌, ℕ, ◌+◌, ◌*◌, ◌≤◌, List, map, length, take, ◌≢◌, slice_index_or}
use Rattle.std.specs.List.{All}
use Rattle.model.specs.Meaning.{minimum_of}
use Rattle.model.specs.Promises.{Distinct}
use Rattle.places.specs.Places.{held}
use Rattle.record.specs.Sound.{Filled, Rooms, Sound}
use Rattle.record.specs.declared.record.Record.{Record}
use Rattle.shelf.specs.Views.{blank, held_in, slot_of}
use Rattle.shelf.specs.declared.shelf.Shelf.{Shelf}

-- a record can be read, its job holds the minimum, and its blob lies in its place
pub record Fine (width size : ℕ) (c : List ℕ) (r : Record) : Type 0 where
  pub sound : Sound width r
  pub filled : Filled (minimum_of c) r
  pub blob : r.blob_len ≤ size

pub record Whole (s : Shelf) : Type 0 where
  pub window : s.window ≤ 16
  pub narrow : s.width ≤ 1024
  pub few : s.count ≤ s.window + 1
  pub entries : length s.filed ≡ 17
  pub slots : length s.records ≡ 17
  pub low : All (λ f. f.slot ≤ s.window) (take (s.window + 1) s.filed)
  pub apart : Distinct (map slot_of (take (s.window + 1) s.filed))
  pub rooms : All Rooms s.records
  pub each : All (λ f. Fine s.width s.size f.commitment.bytes (slice_index_or s.records f.slot blank)) (held_in s)

-- the memory has every slot's places
abbrev pub ShardsLent : Shelf → List ℕ → Type 0
ShardsLent s shards = (s.window + 1) * 64 * s.width ≤ length shards

abbrev pub BlobsLent : Shelf → List ℕ → Type 0
BlobsLent s blobs = (s.window + 1) * s.size ≤ length blobs

-- the blobs of other slots are as they were
abbrev pub OtherBlobs : ℕ → ℕ → List ℕ → List ℕ → Type 0
OtherBlobs size slot before after = (other n : ℕ) → (other ≢ slot) → n ≤ size → held size other n after ≡ held size other n before

abbrev pub with_records : List Record → Shelf → Shelf
with_records records s = record s { records = records }
