use Rattle.std.proofs.Common.{length, take, sym, ap, ◌∙◌}
use Rattle.table.proofs.Carried.{put_present}
use Rattle.record.proofs.Refused.{turned_down}
use Rattle.record.proofs.filing.file.Goals as goal

pub returns-in-Err-clause-table : goal.returns-in-Err-clause-table
returns-in-Err-clause-table g c =
    let p = turned_down c.args.count (length c.args.entries.now) _ c.in-Err.field-0 c.requires c.in-Err.ensures.answer in
    ap (take c.args.count) {x = c.insert.new.entries} c.in-Err.ensures.table ∙ sym (put_present g.E.Key.Ordered.order g.E.Entry.named c.args.entry (take c.args.count c.args.entries.now) p.0 p.1)
