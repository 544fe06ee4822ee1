-- A shelf of which all holds that is asked between calls: two slots, and one record held, which began anew. Assumes nothing.
use Rattle.std.specs.Prelude.{ℕ, false, ◌∷◌, replicate}
use Rattle.record.specs.declared.record.Record.{Record}
use Rattle.record.specs.declared.stored.Pending.{Pending}
use Rattle.record.specs.declared.stored.Stored.{Stored}
use Rattle.shelf.specs.Views.{nothing}
use Rattle.shelf.specs.Whole.{Whole}
use Rattle.shelf.specs.declared.shelf.Filed.{Filed}
use Rattle.shelf.specs.declared.shelf.Shelf.{Shelf}

abbrev pub unused : Stored
unused = record { index = record { 0 = 0 }; len = 0 }

abbrev pub unsent : Pending
unsent = record { sender = record { bytes = replicate 32 0 }; shard = unused }

abbrev pub begun : Record
begun =
    record { round = record { epoch = record { 0 = 7 }; view = record { 0 = 3 } }; led = false; leader = record { bytes = replicate 32 0 }; contributed = replicate 64 false; verified = false; completions = 0; cached = false; blob_len = 0; received = replicate 64 unused; received_count = 0; checked = replicate 64 unused; checked_count = 0; job_checked = 0; pending = replicate 64 unsent; pending_count = 0; job_pending = 0; job = false }

abbrev pub filed_in : ℕ → Filed
filed_in slot = record { commitment = record { bytes = replicate 100 1 }; slot = slot }

abbrev pub example : Shelf
example = record { window = 1; width = 100; size = 100; filed = filed_in 1 ∷ filed_in 0 ∷ replicate 15 nothing; count = 1; records = replicate 17 begun }

abbrev pub ExampleIsWhole : Type 0
ExampleIsWhole = Whole example
