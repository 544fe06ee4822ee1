-- A blob is a block and four config bytes; it fits a commitment if digest, config and the context's hash agree. Assumes nothing.
use Rattle.std.specs.Prelude.{ℕ, ◌+◌, if◌then◌else◌, Bool, not, ◌&&◌, List, length, Some, None, Ok, Err, Option, Result, ◌==◌}
use Rattle.std.specs.Str.{bytes_eq}
use Rattle.register.specs.declared.commitment.Config.{Config}
use Rattle.register.specs.Commitments.{block_of, config_at, config_of, context_of}
use Rattle.block.specs.Readings.{context_in}
use Rattle.block.specs.declared.kind.Reading.{Reading}
use Rattle.block.specs.declared.blob.Misfit.{Misfit}
use Rattle.block.specs.declared.blob.Misfit.TheVariants.{Codec, DigestMismatch, ConfigMismatch, ContextMismatch}

-- neither half is zero
abbrev pub sound : Config → Bool
sound c = not (c.minimum == 0) && not (c.extra == 0)

abbrev pub same_config : Config → Config → Bool
same_config a b = a.minimum == b.minimum && a.extra == b.extra

-- a block read in front of a blob, and the sound config that is all that stands behind it
abbrev pub parsed : List ℕ → Option Reading → Result (Reading × Config) Misfit
parsed blob None = Err Codec
parsed blob (Some r) =
    if length blob == r.len + 4 && sound (config_at blob r.len) then Ok (r, config_at blob r.len) else Err Codec

-- the first of digest, config and context that differs
abbrev pub matched : (List ℕ → List ℕ) → List ℕ → List ℕ → Result (Reading × Config) Misfit → Result Reading Misfit
matched digest commitment blob (Err e) = Err e
matched digest commitment blob (Ok (r, config)) =
    if bytes_eq r.digest (block_of commitment)
    then (if same_config config (config_of commitment)
    then (if bytes_eq (digest (context_in blob r)) (context_of commitment) then Ok r else Err ContextMismatch)
    else Err ConfigMismatch)
    else Err DigestMismatch

-- what a blob is to a commitment, where `reads` tells the block in front of it
abbrev pub fitted : (List ℕ → List ℕ) → (List ℕ → Option Reading) → List ℕ → List ℕ → Result Reading Misfit
fitted digest reads commitment blob = matched digest commitment blob (parsed blob (reads blob))
