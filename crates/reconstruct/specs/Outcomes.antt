-- How a reconstruction ends, and what it leaves in the place. Assumes nothing.
use Rattle.std.specs.Prelude.{ℕ, if◌then◌else◌, List, length, Result, nat_lt}
use Rattle.block.specs.declared.kind.Reading.{Reading}
use Rattle.scheme.specs.Pieces.{Indexed}
use Rattle.scheme.specs.Told.{Opened}
use Rattle.reconstruct.specs.declared.error.Error.{Error}
use Rattle.reconstruct.specs.declared.outcome.Outcome.{Outcome}
use Rattle.reconstruct.specs.declared.outcome.Outcome.TheVariants.{Decoded, Insufficient}
use Rattle.reconstruct.specs.Rebuilt.{written}

-- fewer shards than the minimum are only counted; as many are decoded
abbrev pub ended : ℕ → List Indexed → Result Reading Error → Outcome
ended minimum shards result =
    if nat_lt (length shards) minimum then Insufficient (length shards) else Decoded result

abbrev pub filled : ℕ → List Indexed → Opened → List ℕ → List ℕ
filled minimum shards opened place = if nat_lt (length shards) minimum then place else written opened place
