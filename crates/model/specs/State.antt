-- What a node holds: records by commitment, and for each primary peer a box of what came early. Assumes nothing.
use Rattle.std.specs.Prelude.{ℕ, Bool, false, cond, ◌&&◌, ◌||◌, List, [], replicate, None, Option, ◌==◌, nat_lt}
use Rattle.register.specs.Order.{order}
use Rattle.register.specs.declared.counters.Round.{Round}
use Rattle.scheme.specs.Pieces.{Indexed}
use Rattle.table.specs.Laws.{look}

pub record Limits : Type 0 where
  pub window : ℕ
  pub boxes : ℕ
  pub shard : ℕ
  pub blob : ℕ

-- a shard in a box
pub record Early : Type 0 where
  pub commitment : List ℕ
  pub shard : Indexed

-- a primary peer and its box, the earliest entry in front
pub record Peer : Type 0 where
  pub key : List ℕ
  pub box : List Early

-- a shard with the key that sent it
pub record Sent : Type 0 where
  pub sender : List ℕ
  pub shard : Indexed

-- the shards that a job took
pub record Job : Type 0 where
  pub checked : List Indexed
  pub pending : List Sent

-- what a record keeps until its block is cached: received ascends by index, pending by sender
pub record Shards : Type 0 where
  pub received : List Indexed
  pub checked : List Indexed
  pub pending : List Sent
  pub job : Option Job

pub data Phase : Type 0 where
  awaiting : Shards → Phase
  cached : List ℕ → Phase

-- `contributed` has a flag for each index below 64
pub record Rec : Type 0 where
  pub commitment : List ℕ
  pub round : Round
  pub leader : Option (List ℕ)
  pub contributed : List Bool
  pub verified : Bool
  pub completions : ℕ
  pub phase : Phase

-- both lists ascend, by commitment and by key
pub record State : Type 0 where
  pub records : List Rec
  pub peers : List Peer

abbrev pub fresh : State
fresh = record { records = []; peers = [] }

-- rounds compare by epoch first
abbrev pub lower : Round → Round → Bool
lower a b = nat_lt a.epoch.0 b.epoch.0 || (a.epoch.0 == b.epoch.0 && nat_lt a.view.0 b.view.0)

abbrev pub larger : Round → Round → Round
larger a b = cond (lower a b) b a

abbrev pub filed_under : Rec → List ℕ
filed_under r = r.commitment

abbrev pub round_of : Rec → Round
round_of r = r.round

abbrev pub key_of : Peer → List ℕ
key_of p = p.key

-- the record of a commitment
abbrev pub record_of : List ℕ → State → Option Rec
record_of c s = look order filed_under c s.records

abbrev pub empty : Shards
empty = record { received = []; checked = []; pending = []; job = None }

abbrev pub new_record : List ℕ → Round → Option (List ℕ) → Rec
new_record c round leader =
    record { commitment = c; round = round; leader = leader; contributed = replicate 64 false; verified = false; completions = 0; phase = awaiting empty }

-- a record with one part changed
abbrev pub with_round : Round → Rec → Rec
with_round round r =
    record { commitment = r.commitment; round = round; leader = r.leader; contributed = r.contributed; verified = r.verified; completions = r.completions; phase = r.phase }

abbrev pub with_leader : Option (List ℕ) → Rec → Rec
with_leader leader r =
    record { commitment = r.commitment; round = r.round; leader = leader; contributed = r.contributed; verified = r.verified; completions = r.completions; phase = r.phase }

abbrev pub with_phase : Phase → Rec → Rec
with_phase phase r =
    record { commitment = r.commitment; round = r.round; leader = r.leader; contributed = r.contributed; verified = r.verified; completions = r.completions; phase = phase }

abbrev pub with_completions : ℕ → Rec → Rec
with_completions n r =
    record { commitment = r.commitment; round = r.round; leader = r.leader; contributed = r.contributed; verified = r.verified; completions = n; phase = r.phase }

-- a contribution at an index; the assigned shard is then verified or as it was
abbrev pub with_contribution : List Bool → Bool → Phase → Rec → Rec
with_contribution flags verified phase r =
    record { commitment = r.commitment; round = r.round; leader = r.leader; contributed = flags; verified = verified; completions = r.completions; phase = phase }

abbrev pub with_records : List Rec → State → State
with_records rs s = record { records = rs; peers = s.peers }

abbrev pub with_peers : List Peer → State → State
with_peers ps s = record { records = s.records; peers = ps }
