use Rattle.std.proofs.Common.{◌≡◌, ◌-◌, ◌*◌}
use Rattle.sha256.specs.Fips180.{rounds, schedule}
use Rattle.sha256.specs.Window.{slid}
use Rattle.sha256.proofs.compression.next_hash.Given as goal

abbrev pub invariant-loop-i : goal.invariant-loop-i
invariant-loop-i l =
    (l.s ≡ rounds (16 * l.i) (schedule 48 l.fn.m) l.h) × (l.w ≡ slid (16 * (l.i - 1)) l.fn.m)
