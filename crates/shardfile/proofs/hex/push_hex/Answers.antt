use Rattle.std.proofs.Common.{vec_items, vec_len, refl}
use Rattle.shardfile.proofs.Digits.{pair_read, reads_more}
use Rattle.shardfile.proofs.hex.push_hex.Goals as goal

pub loop-high-preserved : goal.loop-high-preserved
loop-high-preserved c =
    let p = c.in_ok-push.ensures in
    let chunks = c.as_chunks.ensures in
    let word = c.args.word.now in
    let i = c.loop-high.high-index in
    let read = pair_read word c.as_chunks.result.0.now i c.byte.result c.in_ok-next.next chunks.front chunks.front_len c.loop-high-test.true c.byte.ensures c.in_ok-next.ensures.ok_part in
    reads_more (vec_items c.args.out.now) (vec_len c.args.out.now) word i (vec_items c.loop-high.out) (vec_len c.loop-high.out) (vec_items c.push.new.self) (vec_len c.push.new.self) c.in_ok-next.next c.loop-high.invariant p.len (λ k h. p.by_index.0 k 0 h) (p.by_index.1 0 refl) read
