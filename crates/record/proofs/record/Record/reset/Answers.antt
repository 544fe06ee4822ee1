use Rattle.std.proofs.Common.{refl, zero-le}
use Rattle.std.proofs.lemmas.List.Elements.{All-nil}
use Rattle.record.specs.Sound.{Lies}
use Rattle.record.proofs.record.Record.reset.Goals as goal

pub returns-clause-sound : goal.returns-clause-sound
returns-clause-sound c width rooms =
    record { flags = refl; received_room = rooms.received; checked_room = rooms.checked; pending_room = rooms.pending; received = zero-le; used = zero-le; job_checked = zero-le; job_pending = zero-le; no_job = λ e. (refl, refl); received_lie = All-nil (Lies width _); checked_lie = All-nil (Lies width _); pending_lie = All-nil (λ p. Lies width _ p.shard) }
