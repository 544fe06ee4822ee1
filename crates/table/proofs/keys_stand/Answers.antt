use Rattle.table.proofs.Orders.{total_order}
use Rattle.table.proofs.Lawful.{found_exactly}
use Rattle.table.proofs.keys_stand.Goals as goal

pub returns : goal.returns
returns g c = found_exactly g.E.Key.Ordered.order g.E.Entry.named (total_order g.met.E.Key.Ordered.reverses g.met.E.Key.Ordered.ascends g.met.E.Key.Ordered.ties) g.met.E.Key.Exact.same
