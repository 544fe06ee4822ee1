use Rattle.std.proofs.Common.{get_or, refl}
use Rattle.table.proofs.Search.{changed_at}
use Rattle.rosters.specs.Epochs.{by_number, row, rows_of, numbered, epoch_of, with_known}
use Rattle.rosters.specs.Switched.{told_is_some}
use Rattle.rosters.proofs.epochs.Table.set_known.Goals as goal

pub returns-in-Ok : goal.returns-in-Ok
returns-in-Ok c =
    let t = c.args.self.now in
    let e = c.args.epoch.0 in
    let x = c.index-self-place.result in
    record {
      answer = told_is_some (row e (rows_of t)) (get_or (rows_of t) c.in-Ok.place x) (c.in-Ok.ensures.entry x);
      rows = changed_at by_number epoch_of (with_known c.args.known) (numbered e) t.rows t.count c.in-Ok.place x c.in-Ok.ensures.within.0 c.in-Ok.ensures.answer;
      count = refl;
    }
