use Rattle.std.proofs.Common.{◌≡◌, length, ◌∙◌, rules}
use Rattle.std.proofs.lemmas.List.{length_push}
use Rattle.std.specs.Slice.Iter.{chunks_exact_rest}
use Rattle.tree.proofs.Climb.{climb_more, left_more, place_more, sibling_is, within_more}
use Rattle.tree.proofs.path.climb.Goals as goal

pub loop-sibling-preserved : goal.loop-sibling-preserved
loop-sibling-preserved g c =
    let i = c.loop-sibling.invariant in
    let t = c.in-Some.ensures.steps in
    let path = c.args.path.now in
    let n = length c.loop-sibling.yielded in
    let more = length_push c.loop-sibling.yielded c.in-Some.sibling in
    let rest = chunks_exact_rest c.loop-sibling.sibling-iterator in
    let next = chunks_exact_rest c.next.new.self in
    let sibling = c.in-Some.sibling.now in
    let wide : length sibling ≡ 32 = t.1.1 ∙ i.size in
    let s = sibling_is path rest next sibling n i.left t.1.0 wide in
    record {
      size = t.0 ∙ i.size;
      left = left_more path rest next sibling n i.left t.1.0 wide _ more;
      within = within_more path rest next sibling n i.left t.1.0 wide _ more i.within;
      long = search rules;
      at = place_more c.args.index n c.loop-sibling.place i.at _ more;
      climbs = climb_more (g.D.Hash.digest c.args.hash.now) c.args.leaf c.args.index path n c.loop-sibling.place i.at _ more c.loop-sibling.node c.above-node.result sibling i.climbs s c.above-node.ensures;
    }
