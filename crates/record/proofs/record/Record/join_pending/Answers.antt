use Rattle.std.proofs.Common.{◌≡◌, ◌+◌, ◌-◌, length, drop, sym, ap, ◌∙◌, arith, length-drop, length-take, rules}
use borrow.Rule.Slice.PartMut.{put_mid}
use Rattle.table.specs.Table.{put}
use Rattle.record.specs.Fields.{by_sender, sender_named}
use Rattle.record.proofs.Parting.{behind_front, behind_part, part_front}
use Rattle.record.proofs.record.Record.join_pending.Goals as goal

pub returns-clause-table : goal.returns-clause-table
returns-clause-table c =
    let xs = c.args.self.now.pending in
    let a = c.args.self.now.job_pending in
    let n = c.args.self.now.pending_count in
    let ys = c.file.new.entries in
    let whole : length xs ≡ 64 = search rules in
    let part : length ys ≡ 64 - a = c.file.auto.entries ∙ simp (length-take, length-drop) (omega arith) in
    behind_front a (64 - a) xs ys (omega arith) c.file.result (omega (arith, c.file.ensures.count)) ∙ c.file.ensures.table ∙ ap (put by_sender sender_named (record { sender = c.args.sender.now; shard = c.args.stored })) (part_front a (64 - a) n xs (omega arith))

pub returns-clause-behind : goal.returns-clause-behind
returns-clause-behind c =
    let xs = c.args.self.now.pending in
    let a = c.args.self.now.job_pending in
    let n = c.args.self.now.pending_count in
    let ys = c.file.new.entries in
    let whole : length xs ≡ 64 = search rules in
    let part : length ys ≡ 64 - a = c.file.auto.entries ∙ simp (length-take, length-drop) (omega arith) in
    let on : n + 1 ≡ a + (n - a + 1) = omega arith in
    ap (λ m. drop m (put_mid a (64 - a) xs ys)) on ∙ behind_part a (64 - a) xs ys (omega arith) (n - a + 1) (omega arith) (simp (length-take, length-drop) (omega arith)) c.file.ensures.behind ∙ ap (λ m. drop m xs) (sym on)
