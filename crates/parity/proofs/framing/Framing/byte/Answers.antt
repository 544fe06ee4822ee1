use Rattle.parity.proofs.Reading.{byte_full, byte_void}
use Rattle.parity.proofs.framing.Framing.byte.Goals as goal

pub returns-then-is_empty : goal.returns-then-is_empty
returns-then-is_empty c =
    byte_void c.args.self.now c.args.i c.requires _ c.xor_at.result c.if-is_empty.ensures c.xor_at.ensures

pub returns-else-is_empty : goal.returns-else-is_empty
returns-else-is_empty c =
    byte_full c.args.self.now c.args.i c.requires _ c.byte_or_zero.result c.if-is_empty.ensures c.byte_or_zero.ensures
