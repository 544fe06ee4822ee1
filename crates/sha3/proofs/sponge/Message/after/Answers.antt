use Rattle.std.proofs.Common.{sym}
use Rattle.sha3.proofs.Absorbing.{drop_parts}
use Rattle.sha3.proofs.sponge.Message.after.Goals as goal

pub returns : goal.returns
returns c =
    rw (c.after.ensures, c.after-2.ensures, c.saturating_sub.ensures, ← c.self.view_is)
    (sym (drop_parts c.args.n c.self.inside.head.now c.self.inside.tail.now))
