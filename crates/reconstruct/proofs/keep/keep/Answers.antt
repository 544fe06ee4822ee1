use Rattle.std.proofs.Common.{◌≡◌, ◌<◌, ◌≤◌, false, [], length, get_or, take, sym, ◌∙◌, arith, length-take-le}
use Rattle.std.proofs.lemmas.List.{get_or-take, take_all}
use Rattle.scheme.specs.declared.piece.Piece.{Piece}
use Rattle.reconstruct.proofs.Passing.{passing_no, passing_yes}
use Rattle.reconstruct.proofs.keep.keep.Goals as goal
use Rattle.reconstruct.proofs.keep.keep.Goals.{then-good, else-good}

blank : Piece
blank = record { index = 0; bytes = record { ref_ptr = (0, 0); now = [] } }

pub loop-i-preserved : goal.loop-i-preserved
loop-i-preserved c =
    let many = length-take-le (length c.args.shards.now) c.args.verdicts.now c.requires in
    let h : c.loop-i.i < length c.args.shards.now = omega arith in
    let n : c.loop-i.i < length c.args.verdicts.now = omega arith in
    let front : get_or c.args.verdicts.now c.loop-i.i false ≡ get_or (take (length c.args.shards.now) c.args.verdicts.now) c.loop-i.i false = sym (get_or-take (length c.args.shards.now) c.args.verdicts.now c.loop-i.i false h) in
    elim c.if-good.branch [
      | then-good w ↦ rw (w.shards-is, w.count-is) (passing_yes c.loop-i.invariant h n _ (front ∙ w.if-good.true))
      | else-good w ↦ rw (w.shards-is, w.count-is) (passing_no c.loop-i.invariant h n blank (front ∙ w.if-good.false))
    ]

pub returns : goal.returns
returns c =
    let many = length-take-le (length c.args.shards.now) c.args.verdicts.now c.requires in
    let all : length c.args.shards.now ≤ c.loop-i.i = omega arith in
    let whole = take_all c.loop-i.i c.args.shards.now all in
    let p = c.loop-i.invariant in
    record { keeps = simp whole at p.front; counts = simp whole at p.counts; within = omega (arith, p.behind, p.within) }
