use Rattle.std.proofs.Common.{◌≡◌, ◌+◌, ◌-◌, ◌≤◌, length, take, drop, arith}
use Rattle.parity.specs.Framings.{framed_in}
use Rattle.parity.proofs.Reading.{length-framed_in, part_length, write_run}
use Rattle.parity.proofs.framing.Framing.write.Goals as goal

pub loop-done-preserved : goal.loop-done-preserved
loop-done-preserved c =
    let bytes = framed_in c.args.self.now in
    let n = length-framed_in c.args.self.now in
    let done = c.loop-done.done in
    let run = c.min-run.result in
    let low : done + run ≤ c.args.len = omega (arith, c.min-run.ensures, c.loop-done-test.true) in
    let whole : 4 + (done + run) ≤ length bytes = omega (arith, c.requires.within) in
    let room : done + run ≤ length c.loop-done.place = omega (arith, c.requires.room, c.loop-done.auto.place) in
    let m : done + run - done ≡ run = omega arith in
    (low, write_run c.args.place.now c.loop-done.place bytes c.copy_run.new.out done run (done + run - done) (length (take (done + run - done) (drop done c.loop-done.place))) c.loop-done.invariant.1 whole m (part_length c.loop-done.place done run room) c.copy_run.ensures)
