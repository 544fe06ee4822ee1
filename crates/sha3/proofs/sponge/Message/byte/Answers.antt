use Rattle.std.proofs.Common.{sym, arith, length-append}
use Rattle.sha3.proofs.Padding.{both, first, last, middle}
use Rattle.sha3.proofs.Reading.{in_head, in_tail}
use Rattle.sha3.proofs.sponge.Message.byte.Goals as goal

pub returns-then-k-self : goal.returns-then-k-self
returns-then-k-self c =
    rw (← c.self.view_is) (in_head c.self.inside.head.now c.self.inside.tail.now c.args.k (omega arith))

pub returns-then-rest-self : goal.returns-then-rest-self
returns-then-rest-self c =
    rw (← c.self.view_is) (in_tail c.self.inside.head.now c.self.inside.tail.now c.args.k (omega arith) (omega arith))

pub returns-in-true-true : goal.returns-in-true-true
returns-in-true-true c =
    let long = length-append c.self.inside.head.now c.self.inside.tail.now in
    rw (← c.self.view_is) (sym (both _ c.args.k (omega arith) (omega arith)))

pub returns-in-true-false : goal.returns-in-true-false
returns-in-true-false c =
    let long = length-append c.self.inside.head.now c.self.inside.tail.now in
    rw (← c.self.view_is) (sym (first _ c.args.k (omega arith) (omega arith)))

pub returns-in-false-true : goal.returns-in-false-true
returns-in-false-true c =
    let long = length-append c.self.inside.head.now c.self.inside.tail.now in
    rw (← c.self.view_is) (sym (last _ c.args.k (omega arith) (omega arith)))

pub returns-in-false-false : goal.returns-in-false-false
returns-in-false-false c =
    let long = length-append c.self.inside.head.now c.self.inside.tail.now in
    rw (← c.self.view_is) (sym (middle _ c.args.k (omega arith) (omega arith)))
