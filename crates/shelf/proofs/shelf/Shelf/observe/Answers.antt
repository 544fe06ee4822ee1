use Rattle.std.proofs.Common.{get_or, set, ap, ◌∙◌}
use Rattle.model.specs.State.{larger}
use Rattle.record.specs.Views.{memory}
use Rattle.shelf.proofs.Lending.{fine_at_round, lent_whole, lent_is, lent_rooms, rooms_at_round}
use Rattle.shelf.specs.Views.{blank, nothing, shelf_of}
use Rattle.shelf.proofs.shelf.Shelf.observe.Goals as goal

pub returns-clause-records : goal.returns-clause-records
returns-clause-records c shards blobs =
    let s = c.args.self.now in
    let f = get_or s.filed c.args.place nothing in
    lent_is s c.requires.whole c.args.place c.requires.within c.observe.new.self shards blobs
    ∙ ap (set (shelf_of s shards blobs) c.args.place) (c.observe.ensures.view (memory s.width shards s.size blobs) f.commitment.bytes f.slot)

pub returns-clause-whole : goal.returns-clause-whole
returns-clause-whole c =
    let s = c.args.self.now in
    let slot = (get_or s.filed c.args.place nothing).slot in
    let r = get_or s.records slot blank in
    let round = larger r.round c.args.round in
    lent_whole s c.requires.whole c.args.place c.requires.within c.observe.new.self
    (rw c.observe.ensures.stays (rooms_at_round round r (lent_rooms s c.requires.whole c.args.place c.requires.within)))
    (λ k fine. rw c.observe.ensures.stays (fine_at_round round s.width s.size k r fine))
