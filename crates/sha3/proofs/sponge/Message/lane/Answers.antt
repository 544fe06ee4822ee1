use Rattle.std.proofs.Common.{◌-◌, length, ◌∙◌, arith, length-append}
use Rattle.sha3.proofs.Reading.{lane-array, lane-head, lane_tail, lane-zero}
use Rattle.sha3.proofs.sponge.Message.lane.Goals as goal

pub returns-then-k-self : goal.returns-then-k-self
returns-then-k-self c =
    rw (← c.self.view_is) (c.from_le_bytes.ensures ∙ lane-array c.self.inside.head.now c.array_at.result c.args.k c.array_at.ensures ∙ lane-head c.self.inside.head.now c.self.inside.tail.now c.args.k (omega arith))

pub returns-then-rest-self : goal.returns-then-rest-self
returns-then-rest-self c =
    rw (← c.self.view_is) (c.from_le_bytes-then-rest-self.ensures ∙ lane-array c.self.inside.tail.now c.array_at-then-rest-self.result (c.args.k - length c.self.inside.head.now) c.array_at-then-rest-self.ensures ∙ lane_tail c.self.inside.head.now c.self.inside.tail.now c.args.k (omega arith) (omega arith))

pub returns-then-k-lt-RATE : goal.returns-then-k-lt-RATE
returns-then-k-lt-RATE c =
    let long = length-append c.self.inside.head.now c.self.inside.tail.now in
    rw (← c.self.view_is) (lane-zero _ c.args.k (omega arith) (omega arith))
