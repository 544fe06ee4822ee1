-- What keeping a shard asks, and what it leaves. Assumes nothing.
use Rattle.std.specs.Prelude.{◌≡◌, ℕ, ◌+◌, ◌*◌, ◌<◌, ◌≤◌, Bool, false, List, length, ◌≢◌, slice_index_or}
use Rattle.places.specs.Places.{held}
use Rattle.scheme.specs.Pieces.{Indexed}
use Rattle.model.specs.Intake.{contributes, with_pending}
use Rattle.model.specs.State.{Phase, awaiting, cached, Sent, with_contribution}
use Rattle.record.specs.Sound.{Sound}
use Rattle.record.specs.Views.{memory, place_of, view}
use Rattle.record.specs.declared.record.Record.{Record}
use Rattle.record.specs.declared.slot.Slot.{Slot}

-- the memory has the slot's places
abbrev pub Placed : Slot → List ℕ → Type 0
Placed slot shards = (slot.number * 64 + 64) * slot.width ≤ length shards

-- the record can be read, with its shards in the slot's places
pub record Housed (slot : Slot) (r : Record) (shards : List ℕ) : Type 0 where
  pub sound : Sound slot.width r
  pub placed : Placed slot shards

-- the record can keep these bytes at an index that has not contributed
pub record OpenTo (width : ℕ) (r : Record) (index : ℕ) (bytes : List ℕ) : Type 0 where
  pub sound : Sound width r
  pub within : index < 64
  pub fits : length bytes ≤ width
  pub fresh : slice_index_or r.contributed index false ≡ false

-- the phase in which a shard waits under its sender's key
abbrev pub queued : Sent → Phase → Phase
queued p (awaiting w) = awaiting (with_pending p w)
queued p (cached blob) = cached blob

-- the record r becomes s, and the memory of shards `after`: wherever blobs lie, the shard x has contributed, and the model's
-- record is in the next phase
abbrev pub TakesIn : Slot → Record → Record → List ℕ → List ℕ → Indexed → Bool → (Phase → Phase) → Type 0
TakesIn slot r s before after x verified next =
    (size : ℕ) (blobs c : List ℕ) → let was = view (memory slot.width before size blobs) c slot.number r in view (memory slot.width after size blobs) c slot.number s ≡ with_contribution (contributes x was) verified (next was.phase) was

-- the places of other slots hold what they held
abbrev pub Elsewhere : ℕ → ℕ → List ℕ → List ℕ → Type 0
Elsewhere width slot before after =
    (other i n : ℕ) → (other ≢ slot) → i < 64 → n ≤ width → held width (place_of other i) n after ≡ held width (place_of other i) n before
