use Rattle.std.proofs.Common.{ap, ◌∙◌}
use Rattle.sha256.specs.Fips180.{bytes}
use Rattle.sha256.proofs.Parts.{sha256_is}
use Rattle.sha256.proofs.Sha256Hash.hash_parts.Goals as goal

pub returns : goal.returns
returns c =
    c.bytes_of.ensures ∙ ap bytes (simp c.new.ensures at c.last_hash.ensures)
    ∙ sha256_is c.args.first.now c.args.second.now c.as_slice.result.now (c.as_slice.ensures ∙ c.padding_of-padding.ensures)
