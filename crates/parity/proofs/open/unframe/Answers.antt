use Rattle.std.proofs.Common.{length, refl}
use Rattle.parity.proofs.Unframing.{behind, fits, over, padding, room}
use Rattle.parity.proofs.open.unframe.Goals as goal

pub blob_length-length-requires : goal.blob_length-length-requires
blob_length-length-requires c = room c.args.framing.now c.min.result c.min.ensures c.if-pieces-min-lt4.false

pub returns-then-not-zeros-clause-tells : goal.returns-then-not-zeros-clause-tells
returns-then-not-zeros-clause-tells c =
    padding (length c.args.place.now) c.args.framing.now c.min.result c.blob_length-length.result c.piece_length.result c.min.ensures c.if-pieces-min-lt4.false c.blob_length-length.ensures c.piece_length.ensures c.if-piece_length-width.false c.if-not-zeros.ensures

pub returns-then-length-place-clause-tells : goal.returns-then-length-place-clause-tells
returns-then-length-place-clause-tells c =
    over (length c.args.place.now) c.args.framing.now c.min.result c.blob_length-length.result c.piece_length.result c.min.ensures c.if-pieces-min-lt4.false c.blob_length-length.ensures c.piece_length.ensures c.if-piece_length-width.false c.if-not-zeros.ensures c.if-length-place.true

pub returns-clause-tells : goal.returns-clause-tells
returns-clause-tells c =
    fits (length c.args.place.now) c.args.framing.now c.min.result c.blob_length-length.result c.piece_length.result c.min.ensures c.if-pieces-min-lt4.false c.blob_length-length.ensures c.piece_length.ensures c.if-piece_length-width.false c.if-not-zeros.ensures c.args.place.now c.write.new.place c.if-length-place.false c.write.ensures refl

pub returns-clause-behind : goal.returns-clause-behind
returns-clause-behind c =
    behind (length c.args.place.now) c.args.framing.now c.min.result c.blob_length-length.result c.piece_length.result c.min.ensures c.if-pieces-min-lt4.false c.blob_length-length.ensures c.piece_length.ensures c.if-piece_length-width.false c.if-not-zeros.ensures c.args.place.now c.write.new.place c.if-length-place.false c.write.ensures
