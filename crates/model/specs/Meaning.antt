-- What hash, scheme, block kind and roster mean to an engine. Assumes nothing.
use Rattle.std.specs.Prelude.{ℕ, Bool, List, Option, Result}
use Rattle.block.specs.Blobs.{fitted}
use Rattle.block.specs.declared.blob.Misfit.{Misfit}
use Rattle.block.specs.declared.kind.Reading.{Reading}
use Rattle.reconstruct.specs.Rebuilt.{rebuilt}
use Rattle.reconstruct.specs.declared.error.Error.{Error}
use Rattle.register.specs.Commitments.{config_of, under}
use Rattle.register.specs.declared.commitment.Config.{Config}
use Rattle.scheme.specs.Pieces.{Indexed}
use Rattle.scheme.specs.Told.{Opened}

-- the meaning of hash, scheme and block kind; `good` and `opens` take config, coding root and the largest blob's length
pub record Meaning : Type 0 where
  pub digest : List ℕ → List ℕ
  pub good : Config → List ℕ → ℕ → ℕ → List ℕ → Bool
  pub opens : Config → List ℕ → ℕ → List Indexed → Opened
  pub reads : List ℕ → Option Reading

-- what a roster tells by an epoch's number: its keys, or that it is unknown, and this node's own index
pub record Roster : Type 0 where
  pub keys : ℕ → Option (List (List ℕ))
  pub own : ℕ → Option ℕ

-- how many shards open the block of a commitment
abbrev pub minimum_of : List ℕ → ℕ
minimum_of c = (config_of c).minimum

module _ (m : Meaning) (limit : ℕ) where
  -- whether a shard is good for a commitment
  abbrev pub good_for : List ℕ → Indexed → Bool
  good_for c s = under m.good c limit s.index s.bytes

  -- what shards open to under a commitment
  abbrev pub opened_for : List ℕ → List Indexed → Opened
  opened_for c shards = under m.opens c limit shards

  -- what a blob is to a commitment: the block that it fits with, or why not
  abbrev pub fitted_for : List ℕ → List ℕ → Result Reading Misfit
  fitted_for c blob = fitted m.digest m.reads c blob

  -- the block that shards give, or the fault
  abbrev pub rebuilt_for : List ℕ → List Indexed → Result Reading Error
  rebuilt_for c shards = rebuilt m.digest m.reads c (opened_for c shards)
