use Rattle.std.proofs.Common.{◌≡◌, take, Err, sym, ◌∙◌, subst, arith, rules}
use Rattle.table.specs.Laws.{Ascends}
use Rattle.table.specs.Table.{found}
use Rattle.table.proofs.Orders.{total_order}
use Rattle.table.proofs.Lawful.{table_laws}
use Rattle.table.proofs.Search.{put-at}
use Rattle.table.proofs.Shift.{take_turned_in, drop_turned_in}
use Rattle.table.proofs.insert.Goals as goal

pub returns-in-Err-2-clause-table : goal.returns-in-Err-2-clause-table
returns-in-Err-2-clause-table g c =
    let is : Err c.in-Err.field-0 ≡ found g.E.Key.Ordered.order g.E.Entry.named (g.E.Entry.named c.args.entry) (take c.args.count c.args.entries.now) = search rules in
    take_turned_in c.args.entries.now c.in-Err.field-0 c.args.count c.args.entry c.in-Err.ensures.within.0 (omega arith) _ c.rotate_right.ensures.after ∙ sym (put-at g.E.Key.Ordered.order g.E.Entry.named c.args.entry (take c.args.count c.args.entries.now) c.in-Err.field-0 is)

pub returns-in-Err-2-clause-ascends : goal.returns-in-Err-2-clause-ascends
returns-in-Err-2-clause-ascends g c = λ up.
    let laws = table_laws g.E.Key.Ordered.order g.E.Entry.named (total_order g.met.E.Key.Ordered.reverses g.met.E.Key.Ordered.ascends g.met.E.Key.Ordered.ties) in
    subst (Ascends g.E.Key.Ordered.order g.E.Entry.named) (sym (returns-in-Err-2-clause-table g c)) (laws.put_ascends c.args.entry (take c.args.count c.args.entries.now) up)

pub returns-in-Err-2-clause-behind : goal.returns-in-Err-2-clause-behind
returns-in-Err-2-clause-behind g c =
    drop_turned_in c.args.entries.now c.in-Err.field-0 c.args.count c.args.entry c.in-Err.ensures.within.0 (omega arith) _ c.rotate_right.ensures.after
