use Rattle.std.proofs.Common.{◌+◌, ◌*◌, arith}
use Rattle.places.proofs.Putting.{step_up}
use Rattle.record.proofs.record.Record.keep.Goals as goal

pub store-requires : goal.store-requires
store-requires c =
    let up = step_up (c.args.slot.number * 64 + c.args.shard.index) (c.args.slot.number * 64 + 64) c.args.slot.width (omega (arith, c.requires.within)) in
    record { fits = c.requires.fits; there = simp c.place.ensures (omega (arith, up, c.requires.placed)) }
