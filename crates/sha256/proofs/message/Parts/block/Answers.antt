use Rattle.std.proofs.Common.{◌≡◌, ◌+◌, ◌-◌, ◌*◌, ◌++◌, length, arith}
use Rattle.sha256.proofs.Parts.{block-front, block_behind, block_long}
use Rattle.sha256.proofs.message.Parts.block.Goals as goal

pub block_words-requires-else-before_second-at : goal.block_words-requires-else-before_second-at
block_words-requires-else-before_second-at c =
    block_long c.args.i c.args.self.now c.requires c.gather.ensures c.as_slice.ensures

pub returns-then-at-before_second : goal.returns-then-at-before_second
returns-then-at-before_second c =
    let at = 64 * c.args.i in
    let size : at + 64 - at ≡ 64 = omega arith in
    let here = block-front at c.self.inside.first.now (c.self.inside.second.now ++ c.self.inside.padding.now) (omega arith) in
    let view = c.self.view_is in
    cc

pub returns-then-at-before_padding : goal.returns-then-at-before_padding
returns-then-at-before_padding c =
    let at = 64 * c.args.i in
    let from = at - length c.self.inside.first.now in
    let size : from + 64 - from ≡ 64 = omega arith in
    let inside = block-front from c.self.inside.second.now c.self.inside.padding.now (omega arith) in
    let here = block_behind at c.self.inside.first.now (c.self.inside.second.now ++ c.self.inside.padding.now) (omega arith) in
    let view = c.self.view_is in
    cc
