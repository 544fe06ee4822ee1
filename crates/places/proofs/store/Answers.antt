use Rattle.std.proofs.Common.{◌+◌, ◌*◌, length, ap, ◌∙◌, arith}
use Rattle.std.proofs.lemmas.Slice.{drop-put_mid}
use Rattle.places.proofs.Putting.{put_elsewhere}
use Rattle.places.proofs.store.Goals as goal

pub returns-clause-behind : goal.returns-clause-behind
returns-clause-behind c =
    let a = c.args.place * c.args.size in
    drop-put_mid a _ c.args.memory.now c.copy_from_slice.new.self (a + length c.args.bytes.now) (omega arith) (omega arith) (ap length c.copy_from_slice.ensures.after ∙ omega arith)

pub returns-clause-others : goal.returns-clause-others
returns-clause-others c =
    put_elsewhere c.args.size c.args.place _ c.args.memory.now c.copy_from_slice.new.self (omega (arith, c.requires.fits)) (ap length c.copy_from_slice.ensures.after ∙ omega arith) c.requires.there
