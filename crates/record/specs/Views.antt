-- What a record means: the model's record, with the shards' bytes and the blob where they lie. Assumes nothing.
use Rattle.std.specs.Prelude.{ℕ, ◌+◌, ◌*◌, cond, List, map, take, drop, Some, None, Option}
use Rattle.places.specs.Places.{held}
use Rattle.scheme.specs.Pieces.{Indexed}
use Rattle.model.specs.State.{Job, Phase, awaiting, cached, Rec, Sent, Shards}
use Rattle.record.specs.declared.record.Record.{Record}
use Rattle.record.specs.declared.stored.Pending.{Pending}
use Rattle.record.specs.declared.stored.Stored.{Stored}

-- places of `width` bytes for shards, 64 to a slot, and of `size` bytes for blobs, one to a slot
pub record Memory : Type 0 where
  pub width : ℕ
  pub shards : List ℕ
  pub size : ℕ
  pub blobs : List ℕ

abbrev pub memory : ℕ → List ℕ → ℕ → List ℕ → Memory
memory width shards size blobs = record { width = width; shards = shards; size = size; blobs = blobs }

-- the place of a slot's shard
abbrev pub place_of : ℕ → ℕ → ℕ
place_of slot index = slot * 64 + index

abbrev pub leader_of : Record → Option (List ℕ)
leader_of r = cond r.led (Some r.leader.bytes) None

module _ (at : Memory) (slot : ℕ) where
  abbrev pub shard_in : Stored → Indexed
  shard_in s = record { index = s.index.0; bytes = held at.width (place_of slot s.index.0) s.len at.shards }

  abbrev pub sent_in : Pending → Sent
  sent_in p = record { sender = p.sender.bytes; shard = shard_in p.shard }

  abbrev pub job_of : Record → Option Job
  job_of r =
      cond r.job
      (Some (record { checked = map shard_in (take r.job_checked r.checked); pending = map sent_in (take r.job_pending r.pending) }))
      None

  abbrev pub shards_of : Record → Shards
  shards_of r =
      record { received = map shard_in (take r.received_count r.received); checked = map shard_in (drop r.job_checked (take r.checked_count r.checked)); pending = map sent_in (drop r.job_pending (take r.pending_count r.pending)); job = job_of r }

  abbrev pub blob_of : Record → List ℕ
  blob_of r = held at.size slot r.blob_len at.blobs

  abbrev pub phase_of : Record → Phase
  phase_of r = cond r.cached (cached (blob_of r)) (awaiting (shards_of r))

-- the record filed under c in a slot
abbrev pub view : Memory → List ℕ → ℕ → Record → Rec
view at c slot r =
    record { commitment = c; round = r.round; leader = leader_of r; contributed = r.contributed; verified = r.verified; completions = r.completions; phase = phase_of at slot r }
