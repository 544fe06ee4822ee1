use Rattle.std.proofs.Common.{◌≡◌, length, ap, ◌∙◌}
use Rattle.record.specs.Fields.{with_pending}
use Rattle.record.specs.declared.record.Record.{Record}
use Rattle.record.proofs.Counting.{room_received, room_pending}
use Rattle.record.proofs.Joined.{waits-sound, waits-view}
use Rattle.record.proofs.Joining.{elsewhere}
use Rattle.record.proofs.record.Record.wait.Goals as goal

pub keep-stored-requires : goal.keep-stored-requires
keep-stored-requires c =
    let o = c.requires.fits in
    record { within = o.within; fits = o.fits; placed = c.requires.placed; room = room_received c.args.slot.width c.args.self.now c.args.shard.index c.args.shard.bytes.now o }

pub join_pending-requires : goal.join_pending-requires
join_pending-requires c =
    let o = c.requires.fits in
    let kept = c.keep-stored.ensures.stays in
    record { out = rw kept o.sound.job_pending; room = rw kept (room_pending c.args.slot.width c.args.self.now c.args.shard.index c.args.shard.bytes.now o) }

pub returns : goal.returns
returns c =
    let r = c.args.self.now in
    let k = c.keep-stored.new.self in
    let e = c.join_pending.new.self in
    let o = c.requires.fits in
    let kept = c.keep-stored.ensures.stays in
    let is = c.keep-stored.ensures.stored in
    let whole = c.join_pending.ensures.stays ∙ ap (with_pending e.pending e.pending_count) kept in
    let table = rw is at c.keep-stored.ensures.table in
    let out = rw kept at c.join_pending.ensures.job in
    let waits = rw (kept, is) at c.join_pending.ensures.table in
    let counts = rw kept at c.join_pending.ensures.count in
    let wide : length e.pending ≡ 64 = c.join_pending.ensures.long ∙ ap (λ (x : Record). length x.pending) kept ∙ o.sound.pending_room in
    let long : length k.received ≡ 64 = c.keep-stored.ensures.long ∙ o.sound.received_room in
    record {
      waits = λ size blobs filed. rw whole (waits-view c.args.slot.width c.args.shard.index c.args.shard.bytes.now r o c.args.slot.number c.args.shards.now c.keep-stored.new.shards size blobs c.keep-stored.ensures.written c.keep-stored.ensures.others c.args.sender.now k.received k.received_count e.pending e.pending_count c.requires.before table out waits filed);
      sound = rw whole (waits-sound c.args.slot.width c.args.shard.index c.args.shard.bytes.now r o c.args.slot.number c.args.shards.now c.keep-stored.new.shards 0 c.args.shards.now c.keep-stored.ensures.written c.keep-stored.ensures.others c.args.sender.now k.received k.received_count e.pending e.pending_count c.requires.before table out waits long wide c.keep-stored.ensures.count counts.0 counts.1);
      job = record { out = ap (λ (x : Record). x.job) whole; checked = ap (λ (x : Record). x.job_checked) whole; pending = ap (λ (x : Record). x.job_pending) whole };
      elsewhere = elsewhere c.args.slot.width c.args.slot.number c.args.shard.index c.args.shards.now c.keep-stored.new.shards o.within c.keep-stored.ensures.others;
    }
