use Rattle.examine.proofs.Examining.{examined, is_given}
use Rattle.examine.proofs.check_and_open.Goals as goal

pub unwrap-requires : goal.unwrap-requires
unwrap-requires c =
    is_given c.args.file.now c.args.shards.now c.args.verdicts.now c.requires.room c.reconstruct.result c.args.place.now c.reconstruct.ensures.gives

pub returns : goal.returns
returns c =
    let told = c.reconstruct.ensures in
    examined c.args.file.now c.args.shards.now c.args.verdicts.now c.requires.room c.reconstruct.result c.args.place.now told.gives c.unwrap.result c.unwrap.ensures c.requires.arrived c.requires.clear c.reconstruct.new.place c.reconstruct.new.verdicts told.writes told.judges
