use Rattle.std.proofs.Common.{◌+◌, take, ap, ◌∙◌}
use Rattle.sha256.specs.Fips180.{zeros}
use Rattle.sha256.proofs.Parts.{field_is, padding_is}
use Rattle.sha256.proofs.message.padding_of.Goals as goal

pub returns : goal.returns
unfolding zeros
returns c = c.of.ensures ∙ ap (take (zeros c.args.n + 9)) c.put.ensures ∙ padding_is c.args.n (field_is c.args.n c.to_be_bytes.ensures)
