-- What is told of a file: every shard's verdict, how the good ones end, and the blob that they open to. Assumes nothing.
use Rattle.std.specs.Prelude.{◌≡◌, ℕ, Bool, List, map, replicate, vec_items, filter}
use Rattle.choice.specs.Choices.{digest_by, good_by, opens_by, reads_by}
use Rattle.reconstruct.specs.Outcomes.{ended, filled}
use Rattle.reconstruct.specs.Rebuilt.{rebuilt}
use Rattle.reconstruct.specs.declared.outcome.Outcome.{Outcome}
use Rattle.register.specs.Commitments.{config_of, under}
use Rattle.scheme.specs.Pieces.{Indexed}
use Rattle.scheme.specs.Told.{Opened}
use Rattle.shardfile.specs.declared.file.ShardFile.{ShardFile}
use Rattle.examine.specs.Arrived.{shards_of}

module _ (file : ShardFile) where
  abbrev pub digest : List ℕ → List ℕ
  digest = digest_by file.hash

  -- whether a shard is good for its index under the file's commitment
  abbrev pub good : Indexed → Bool
  good s = under (good_by file.scheme digest) file.commitment.bytes file.limit s.index s.bytes

  abbrev pub shards : List Indexed
  shards = shards_of (vec_items file.arrivals)

  -- the good ones, in the order in which they came
  abbrev pub kept : List Indexed
  kept = filter good shards

  abbrev pub opened : Opened
  opened = under (opens_by file.scheme digest) file.commitment.bytes file.limit kept

  abbrev pub minimum : ℕ
  minimum = (config_of file.commitment.bytes).minimum

  -- what the place holds before a blob is opened into it
  abbrev pub empty : List ℕ
  empty = replicate file.limit 0

  pub record Examines (verdicts : List Bool) (outcome : Outcome) (place : List ℕ) : Type 0 where
    pub judged : verdicts ≡ map good shards
    pub ends : outcome ≡ ended minimum kept (rebuilt digest (reads_by file.kind digest) file.commitment.bytes opened)
    pub blob : place ≡ filled minimum kept opened empty
