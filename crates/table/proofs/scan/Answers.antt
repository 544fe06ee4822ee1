use Rattle.std.proofs.Common.{length, Ok, Err, arith}
use Rattle.std.proofs.lemmas.Grind.{common_steps}
use Rattle.table.proofs.Search.{looks_at}
use Rattle.table.proofs.scan.Goals as goal

pub returns-in-Equal-clause-entry : goal.returns-in-Equal-clause-entry
returns-in-Equal-clause-entry g c = looks_at g.E.Key.Ordered.order g.E.Entry.named c.args.key.now c.args.entries.now (Ok c.loop-i.i) (grind (arith, common_steps))

pub returns-in-Greater-clause-entry : goal.returns-in-Greater-clause-entry
returns-in-Greater-clause-entry g c = looks_at g.E.Key.Ordered.order g.E.Entry.named c.args.key.now c.args.entries.now (Err c.loop-i.i) (grind (arith, common_steps))

pub returns-clause-entry : goal.returns-clause-entry
returns-clause-entry g c = looks_at g.E.Key.Ordered.order g.E.Entry.named c.args.key.now c.args.entries.now (Err (length c.args.entries.now)) (grind (arith, common_steps))
