use Rattle.std.proofs.Common.{◌≡◌, ◌<◌, take, Ok, sym, ◌∙◌, subst, arith, rules}
use Rattle.table.specs.Laws.{Ascends}
use Rattle.table.specs.Table.{found}
use Rattle.table.proofs.Orders.{total_order}
use Rattle.table.proofs.Lawful.{table_laws}
use Rattle.table.proofs.Search.{without_at}
use Rattle.table.proofs.Shift.{take_turned_out, last_turned_out, drop_turned_out, some_of}
use Rattle.table.proofs.remove.Goals as goal

pub returns-clause-table : goal.returns-clause-table
returns-clause-table g c =
    let xs = c.args.entries.now in
    let n = c.args.count in
    let i = c.in_ok-place.place in
    let was : c.find.result ≡ Ok i = search rules in
    let is : Ok i ≡ found g.E.Key.Ordered.order g.E.Entry.named c.args.key.now (take n xs) = sym was ∙ c.find.ensures.answer in
    let lt : i < n = search rules in
    take_turned_out xs i n lt (omega arith) (some_of xs (omega arith)) _ c.rotate_left.ensures.after ∙ sym (without_at g.E.Key.Ordered.order g.E.Entry.named c.args.key.now (take n xs) i is)

pub returns-clause-ascends : goal.returns-clause-ascends
returns-clause-ascends g c = λ up.
    let laws = table_laws g.E.Key.Ordered.order g.E.Entry.named (total_order g.met.E.Key.Ordered.reverses g.met.E.Key.Ordered.ascends g.met.E.Key.Ordered.ties) in
    subst (Ascends g.E.Key.Ordered.order g.E.Entry.named) (sym (returns-clause-table g c)) (laws.without_ascends c.args.key.now (take c.args.count c.args.entries.now) up)

pub returns-clause-last : goal.returns-clause-last
returns-clause-last g c = λ d.
    last_turned_out c.args.entries.now c.in_ok-place.place c.args.count (search rules) (omega arith) d _ c.rotate_left.ensures.after

pub returns-clause-behind : goal.returns-clause-behind
returns-clause-behind g c =
    let lt : c.in_ok-place.place < c.args.count = search rules in
    drop_turned_out c.args.entries.now c.in_ok-place.place c.args.count lt (omega arith) (some_of c.args.entries.now (omega arith)) _ c.rotate_left.ensures.after
