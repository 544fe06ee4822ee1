-- A record with some of its fields changed, and what its lists are ordered by. Assumes nothing.
use Rattle.std.specs.Prelude.{ℕ, ◌-◌, Bool, true, List}
use Rattle.std.specs.declared.cmp.Ordering.{Ordering}
use Rattle.std.specs.Ordering.{nat_cmp}
use Rattle.register.specs.Order.{order}
use Rattle.register.specs.declared.counters.Round.{Round}
use Rattle.register.specs.declared.key.Key.{Key}
use Rattle.register.specs.declared.ordered.Index.{Index}
use Rattle.record.specs.declared.record.Record.{Record}
use Rattle.record.specs.declared.stored.Pending.{Pending}
use Rattle.record.specs.declared.stored.Stored.{Stored}

abbrev pub by_index : Index → Index → Ordering
by_index a b = nat_cmp a.0 b.0

abbrev pub index_named : Stored → Index
index_named s = s.index

abbrev pub by_sender : Key → Key → Ordering
by_sender a b = order a.bytes b.bytes

abbrev pub sender_named : Pending → Key
sender_named p = p.sender

abbrev pub with_received : List Stored → ℕ → List Bool → Record → Record
with_received received n flags r = record r { contributed = flags; received = received; received_count = n }

abbrev pub with_checked : List Stored → ℕ → Record → Record
with_checked checked n r = record r { checked = checked; checked_count = n }

abbrev pub with_pending : List Pending → ℕ → Record → Record
with_pending pending n r = record r { pending = pending; pending_count = n }

abbrev pub with_verified : Record → Record
with_verified r = record r { verified = true }

-- all but the leader stays
abbrev pub under_leader : Key → Record → Record
under_leader leader r = record r { led = true; leader = leader }

-- all but the round stays
abbrev pub at_round : Round → Record → Record
at_round round r = record r { round = round }

-- a job has started: all checked are out, and pending ones up to the minimum
abbrev pub started : ℕ → Record → Record
started minimum r = record r { job_checked = r.checked_count; job_pending = minimum - r.checked_count; job = true }
