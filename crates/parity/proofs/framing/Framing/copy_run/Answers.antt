use Rattle.std.proofs.Common.{length}
use Rattle.parity.proofs.Reading.{run_end, run_full, run_void}
use Rattle.parity.proofs.framing.Framing.copy_run.Goals as goal

pub copy_from-requires : goal.copy_from-requires
copy_from-requires c =
    run_end c.args.self.now c.args.start (length c.args.out.now) c.requires.within c.requires.inside _ c.if-is_empty.ensures

pub returns-then-is_empty : goal.returns-then-is_empty
returns-then-is_empty c =
    run_void c.args.self.now c.args.start (length c.args.out.now) c.requires.within c.requires.inside _ c.xor_from.new.out c.if-is_empty.ensures c.xor_from.ensures

pub returns-else-is_empty : goal.returns-else-is_empty
returns-else-is_empty c =
    run_full c.args.self.now c.args.start (length c.args.out.now) c.requires.within c.requires.inside _ c.copy_from.new.out c.if-is_empty.ensures c.copy_from.ensures
