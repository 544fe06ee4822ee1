-- What opened shards are to a commitment, and what they leave in the place. Assumes nothing.
use Rattle.std.specs.Prelude.{ℕ, List, ◌++◌, length, drop, Ok, Err, Option, Result}
use Rattle.block.specs.Blobs.{fitted}
use Rattle.block.specs.declared.blob.Misfit.{Misfit}
use Rattle.block.specs.declared.kind.Reading.{Reading}
use Rattle.scheme.specs.Told.{Opened}
use Rattle.reconstruct.specs.declared.error.Error.{Error}
use Rattle.reconstruct.specs.declared.error.Error.TheVariants.{Coding, Blob}

-- a misfit, whole inside the error
abbrev pub raised : Result Reading Misfit → Result Reading Error
raised (Ok r) = Ok r
raised (Err m) = Err (Blob m)

-- the block that an opened blob fits the commitment with
abbrev pub rebuilt : (List ℕ → List ℕ) → (List ℕ → Option Reading) → List ℕ → Opened → Result Reading Error
rebuilt digest reads commitment (Ok blob) = raised (fitted digest reads commitment blob)
rebuilt digest reads commitment (Err f) = Err (Coding f)

-- the place with the opened blob at its front
abbrev pub written : Opened → List ℕ → List ℕ
written (Ok blob) place = blob ++ drop (length blob) place
written (Err f) place = place
