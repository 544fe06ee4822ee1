use Rattle.std.proofs.Common.{◌≡◌, ◌+◌, true, length, set, ap, ◌∙◌}
use Rattle.scheme.specs.Pieces.{indexed}
use Rattle.record.specs.Fields.{with_checked, with_received, with_verified}
use Rattle.record.specs.Views.{memory}
use Rattle.record.specs.declared.record.Record.{Record}
use Rattle.record.specs.declared.stored.Stored.{Stored}
use Rattle.record.proofs.Counting.{room_received, room_checked}
use Rattle.record.proofs.Joined.{checks-sound, checks-view, late_sound, late_view}
use Rattle.record.proofs.Joining.{elsewhere}
use Rattle.record.proofs.record.Record.verify.Goals as goal

pub returns-then-self-clause-verifies : goal.returns-then-self-clause-verifies
returns-then-self-clause-verifies c size blobs filed =
    late_view c.args.slot.width c.args.shard.index c.args.shard.bytes.now c.args.self.now c.requires.fits (memory c.args.slot.width c.args.shards.now size blobs) filed c.args.slot.number (indexed c.args.shard) c.if-self.true

pub returns-then-self-clause-sound : goal.returns-then-self-clause-sound
returns-then-self-clause-sound c = late_sound c.args.slot.width c.args.shard.index c.args.shard.bytes.now c.args.self.now c.requires.fits

pub keep-stored-requires : goal.keep-stored-requires
keep-stored-requires c =
    let o = c.requires.fits in
    record { within = o.within; fits = o.fits; placed = c.requires.placed; room = room_received c.args.slot.width c.args.self.now c.args.shard.index c.args.shard.bytes.now o }

pub join_checked-requires : goal.join_checked-requires
join_checked-requires c =
    rw c.keep-stored.ensures.stays (room_checked c.args.slot.width c.args.self.now c.args.shard.index c.args.shard.bytes.now c.requires.fits)

pub returns : goal.returns
returns c =
    let r = c.args.self.now in
    let k = c.keep-stored.new.self in
    let o = c.requires.fits in
    let kept = c.keep-stored.ensures.stays in
    let is = c.keep-stored.ensures.stored in
    let joins = c.join_checked.ensures ∙ ap (λ (x : Record). with_checked (set x.checked x.checked_count c.keep-stored.result) (x.checked_count + 1) (with_verified x)) kept in
    let whole = joins ∙ ap (λ (s : Stored). with_checked (set r.checked r.checked_count s) (r.checked_count + 1) (with_verified (with_received k.received k.received_count (set r.contributed c.args.shard.index true) r))) is in
    let table = rw is at c.keep-stored.ensures.table in
    let long : length k.received ≡ 64 = c.keep-stored.ensures.long ∙ o.sound.received_room in
    record {
      verifies = λ size blobs filed. rw whole (checks-view c.args.slot.width c.args.shard.index c.args.shard.bytes.now r o c.args.slot.number c.args.shards.now c.keep-stored.new.shards size blobs c.keep-stored.ensures.written c.keep-stored.ensures.others k.received k.received_count c.if-self.false table filed);
      sound = rw whole (checks-sound c.args.slot.width c.args.shard.index c.args.shard.bytes.now r o c.args.slot.number c.args.shards.now c.keep-stored.new.shards 0 c.args.shards.now c.keep-stored.ensures.written c.keep-stored.ensures.others k.received k.received_count c.if-self.false table long c.keep-stored.ensures.count);
      job = record { out = ap (λ (x : Record). x.job) whole; checked = ap (λ (x : Record). x.job_checked) whole; pending = ap (λ (x : Record). x.job_pending) whole };
      elsewhere = elsewhere c.args.slot.width c.args.slot.number c.args.shard.index c.args.shards.now c.keep-stored.new.shards o.within c.keep-stored.ensures.others;
    }
