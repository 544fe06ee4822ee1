use Rattle.table.proofs.Orders.{total_order}
use Rattle.table.proofs.Lawful.{table_laws}
use Rattle.table.proofs.laws_stand.Goals as goal

pub returns : goal.returns
returns g c = table_laws g.E.Key.Ordered.order g.E.Entry.named (total_order g.met.E.Key.Ordered.reverses g.met.E.Key.Ordered.ascends g.met.E.Key.Ordered.ties)
