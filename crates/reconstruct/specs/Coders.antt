-- What a coder makes of shards: of those checked before, and of the pending ones behind them. Assumes nothing.
use Rattle.std.specs.Prelude.{◌≡◌, ℕ, if◌then◌else◌, Bool, List, map, length, take, drop, Some, None, Option, Result}
use Rattle.block.specs.declared.kind.Reading.{Reading}
use Rattle.register.specs.Commitments.{config_of, under}
use Rattle.register.specs.declared.commitment.Config.{Config}
use Rattle.scheme.specs.Pieces.{Indexed, indexed, judged}
use Rattle.scheme.specs.Told.{Opened}
use Rattle.scheme.specs.declared.piece.Piece.{Piece}
use Rattle.reconstruct.specs.declared.coder.Coder.{Coder}
use Rattle.reconstruct.specs.declared.error.Error.{Error}
use Rattle.reconstruct.specs.declared.outcome.Outcome.{Outcome}
use Rattle.reconstruct.specs.Gathered.{gathered, roomy}
use Rattle.reconstruct.specs.Outcomes.{ended, filled}
use Rattle.reconstruct.specs.Rebuilt.{rebuilt}

-- what holds for shards under one commitment, and in a place of one length
pub record Terms : Type 0 where
  pub minimum : ℕ
  -- whether a shard is good for its index
  pub good : ℕ → List ℕ → Bool
  -- what shards open to
  pub opens : List Indexed → Opened
  -- the block in what they open to, or the fault
  pub reads : Opened → Result Reading Error

-- of a digest, a scheme's two meanings and a kind's, for a commitment and the largest blob's length
abbrev pub terms : (List ℕ → List ℕ) → (Config → List ℕ → ℕ → ℕ → List ℕ → Bool) → (Config → List ℕ → ℕ → List Indexed → Opened) → (List ℕ → Option Reading) → List ℕ → ℕ → Terms
terms digest good opens reads commitment limit =
    record {
      minimum = (config_of commitment).minimum;
      good = under good commitment limit;
      opens = under opens commitment limit;
      reads = rebuilt digest reads commitment;
    }

-- of a coder, by what its parts mean
abbrev pub terms_of : {D S K : Type 0} → (D → List ℕ → List ℕ) → (S → (List ℕ → List ℕ) → Config → List ℕ → ℕ → ℕ → List ℕ → Bool) → (S → (List ℕ → List ℕ) → Config → List ℕ → ℕ → List Indexed → Opened) → (K → (List ℕ → List ℕ) → List ℕ → Option Reading) → Coder D S K → ℕ → Terms
terms_of digest good opens reads c limit =
    terms (digest c.hash.now) (good c.scheme.now (digest c.hash.now)) (opens c.scheme.now (digest c.hash.now)) (reads c.kind.now (digest c.hash.now)) c.commitment.now.bytes limit

-- the block in what shards open to, or the fault
abbrev pub block_in : Terms → List Indexed → Result Reading Error
block_in t shards = t.reads (t.opens shards)

-- by which shards are good
module _ (good : ℕ → List ℕ → Bool) (checked : ℕ) (shards : List Piece) where
  -- the shards that the block is opened from
  abbrev pub all : List Indexed
  all = gathered good checked (map indexed shards)

  -- how many those are, where there is room for so many verdicts
  abbrev pub counted : ℕ → Option ℕ
  counted verdicts = if roomy checked (length shards) verdicts then Some (length all) else None

  -- the first n of the shards that stand there then are those
  abbrev pub Gathers : List Piece → ℕ → Type 0
  Gathers after n = map indexed (take n after) ≡ all

  abbrev pub GathersAll : List Piece → Type 0
  GathersAll after = Gathers after (length all)

  -- a verdict for each pending shard
  abbrev pub judged_by : List Bool → List Bool
  judged_by verdicts = judged good (drop checked (map indexed shards)) verdicts

module _ (t : Terms) (checked : ℕ) (shards : List Piece) where
  -- how it ends
  abbrev pub outcome_of : ℕ → Option Outcome
  outcome_of verdicts =
      let opened = all t.good checked shards in
      if roomy checked (length shards) verdicts then Some (ended t.minimum opened (block_in t opened)) else None

  -- what the place holds then
  abbrev pub place_after : ℕ → List ℕ → List ℕ
  place_after verdicts place =
      let opened = all t.good checked shards in
      if roomy checked (length shards) verdicts then filled t.minimum opened (t.opens opened) place else place
