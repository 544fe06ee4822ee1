-- What a shelf means: the model's records, in the order of their commitments. Assumes nothing.
use Rattle.std.specs.Prelude.{ℕ, false, List, [], map, take, slice_index_or}
use Rattle.std.specs.declared.cmp.Ordering.{Ordering}
use Rattle.register.specs.Order.{order}
use Rattle.register.specs.declared.commitment.Commitment.{Commitment}
use Rattle.record.specs.Views.{Memory, memory, view}
use Rattle.record.specs.declared.record.Record.{Record}
use Rattle.model.specs.State.{Rec}
use Rattle.shelf.specs.declared.shelf.Filed.{Filed}
use Rattle.shelf.specs.declared.shelf.Shelf.{Shelf}

-- what is read past the end
abbrev pub blank : Record
blank =
    record { round = record { epoch = record { 0 = 0 }; view = record { 0 = 0 } }; led = false; leader = record { bytes = [] }; contributed = []; verified = false; completions = 0; cached = false; blob_len = 0; received = []; received_count = 0; checked = []; checked_count = 0; job_checked = 0; pending = []; pending_count = 0; job_pending = 0; job = false }

abbrev pub nothing : Filed
nothing = record { commitment = record { bytes = [] }; slot = 0 }

abbrev pub by_bytes : Commitment → Commitment → Ordering
by_bytes a b = order a.bytes b.bytes

abbrev pub commitment_named : Filed → Commitment
commitment_named f = f.commitment

abbrev pub slot_of : Filed → ℕ
slot_of f = f.slot

-- the record of an entry
abbrev pub record_in : Memory → List Record → Filed → Rec
record_in at records f = view at f.commitment.bytes f.slot (slice_index_or records f.slot blank)

abbrev pub held_in : Shelf → List Filed
held_in s = take s.count s.filed

abbrev pub shelf_of : Shelf → List ℕ → List ℕ → List Rec
shelf_of s shards blobs = map (record_in (memory s.width shards s.size blobs) s.records) (held_in s)
