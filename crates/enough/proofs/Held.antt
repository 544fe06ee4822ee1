-- What is true of a record in every run: shards in play at indices that contributed, and the indices of shards found bad.
use Rattle.std.proofs.Common.{◌≡◌, ℕ, ◌+◌, ◌<◌, ◌≤◌, Bool, true, false, List, length, get_or, Some, None, Option}
use Rattle.std.specs.List.{AllByRecursion}
use Rattle.rosters.specs.Sound.{index}
use Rattle.scheme.specs.Pieces.{Indexed}
use Rattle.model.specs.State.{Job, Phase, awaiting, cached, Rec, Sent, Shards}
use Rattle.runs.proofs.Records.{in_play}
use Rattle.runs.proofs.Tallies.{flag, tally}
use Rattle.enough.proofs.Counting.{itself}

-- the index contributed, or the block is there
abbrev pub Given : List Bool → ℕ → Phase → Type 0
Given flags i (awaiting w) = get_or flags i false ≡ true
Given flags i (cached blob) = Unit {0}

abbrev pub GivenTo : Rec → ℕ → Type 0
GivenTo r i = Given r.contributed i r.phase

-- no job is out only while checked and pending are below the minimum
abbrev pub few_with : ℕ → Option Job → Shards → Type 0
few_with minimum None w = length w.checked + length w.pending < minimum
few_with minimum (Some j) w = Unit {0}

abbrev pub Settled : ℕ → Phase → Type 0
Settled minimum (awaiting w) = few_with minimum w.job w
Settled minimum (cached blob) = Unit {0}

-- `Hand k x` says that k handed in x; `keys` and `own` are those of the record's epoch
module _ (good : Indexed → Bool) (minimum : ℕ) (keys : List (List ℕ)) (own : Option ℕ) (Hand : List ℕ → Indexed → Type 0) where
  -- the participant at this index handed in a bad shard there
  pub record Lost (i : ℕ) : Type 0 where
    pub key : List ℕ
    pub bytes : List ℕ
    pub handed : Hand key (record { index = i; bytes = bytes })
    pub place : index key keys ≡ Some i
    pub bad : good (record { index = i; bytes = bytes }) ≡ false

  pub record Checked (x : Indexed) : Type 0 where
    pub passes : good x ≡ true
    pub key : List ℕ
    pub handed : Hand key x

  pub record Pending (p : Sent) : Type 0 where
    pub handed : Hand p.sender p.shard
    pub place : index p.sender keys ≡ Some p.shard.index

  abbrev pub Jobbed : Option Job → Type 0
  Jobbed None = Unit {0}
  Jobbed (Some j) = AllByRecursion Checked j.checked × AllByRecursion Pending j.pending × (minimum ≤ length j.checked + length j.pending)

  pub record Waiting (flags : List Bool) (verified : Bool) (w : Shards) (lost : List ℕ) : Type 0 where
    pub long : length flags ≡ 64
    pub assigned : verified ≡ true → (i : ℕ) → own ≡ Some i → get_or flags i false ≡ true
    pub tallied : (i : ℕ) → in_play i w + tally itself i lost ≡ flag (get_or flags i false)
    pub received : AllByRecursion (λ x. get_or flags x.index false ≡ true) w.received
    pub checked : AllByRecursion Checked w.checked
    pub pending : AllByRecursion Pending w.pending
    pub job : Jobbed w.job

  abbrev pub InPhase : List Bool → Bool → ℕ → List ℕ → Phase → Type 0
  InPhase flags verified completions lost (awaiting w) = Waiting flags verified w lost × (completions ≤ length lost)
  InPhase flags verified completions lost (cached blob) = (i : ℕ) → tally itself i lost ≤ 1

  abbrev pub Sound : List ℕ → Rec → Type 0
  Sound lost r = InPhase r.contributed r.verified r.completions lost r.phase
