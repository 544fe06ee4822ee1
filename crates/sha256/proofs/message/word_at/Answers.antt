use Rattle.std.proofs.Common.{◌∙◌, add-zero, arith}
use Rattle.hash.proofs.Places.{array_byte}
use Rattle.sha256.specs.Fips180.{word}
use Rattle.sha256.proofs.message.word_at.Goals as goal

pub returns : goal.returns
unfolding word
returns c =
    let b0 = array_byte 4 c.args.j 0 _ _ c.array_at.ensures (omega arith) in
    let b1 = array_byte 4 c.args.j 1 _ _ c.array_at.ensures (omega arith) in
    let b2 = array_byte 4 c.args.j 2 _ _ c.array_at.ensures (omega arith) in
    let b3 = array_byte 4 c.args.j 3 _ _ c.array_at.ensures (omega arith) in
    c.from_be_bytes.ensures ∙ simp (b0, b1, b2, b3, add-zero)
