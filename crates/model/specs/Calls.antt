-- What is asked of an engine, and what it answers. Assumes nothing.
use Rattle.std.specs.Prelude.{ℕ, ◌-◌, Bool, false, cond, ◌&&◌, List, length, take, is_some, is_ok, Some, None, Option, ◌==◌, nat_le}
use Rattle.register.specs.Commitments.{committed}
use Rattle.register.specs.declared.counters.Round.{Round}
use Rattle.rosters.specs.Sound.{ascending}
use Rattle.scheme.specs.Pieces.{Indexed}
use Rattle.model.specs.Intake.{Action}
use Rattle.model.specs.Jobs.{job_in}
use Rattle.model.specs.State.{Limits, Phase, awaiting, cached, Rec, State, record_of}
use Rattle.model.specs.declared.answer.Outcome.{Outcome}
use Rattle.model.specs.declared.answer.Reason.{Reason}
use Rattle.model.specs.declared.answer.Reason.TheVariants.{Stranger, WrongIndex, Equivocation, BadAssigned, BadPending}
use Rattle.model.specs.declared.answer.Refusal.{Refusal}
use Rattle.model.specs.declared.answer.Refusal.TheVariants.{Limit, Memory, Malformed, ShardLength, Keys, Room, NoJob, NoBlock, Buffer}

-- how many reports and how many bytes of a broadcast a call has room for
pub record Rooms : Type 0 where
  pub reports : ℕ
  pub broadcast : ℕ

pub data Call : Type 0 where
  discovery : (commitment leader : List ℕ) (round : Round) (rooms : Rooms) → Call
  notarization : (commitment : List ℕ) (round : Round) (rooms : Rooms) → Call
  shard : (commitment peer : List ℕ) (s : Indexed) (rooms : Rooms) → Call
  completion : (commitment : List ℕ) (rooms : Rooms) → Call
  peer_change : (keys : List (List ℕ)) → Call
  block_look_up : (commitment : List ℕ) (room : ℕ) → Call
  verified_look_up : (commitment : List ℕ) → Call

pub record Report : Type 0 where
  pub key : List ℕ
  pub reason : Reason

pub data Answer : Type 0 where
  refused : Refusal → Answer
  answered : Outcome → List Report → Option Action → Answer
  changed_peers : Answer
  given : List ℕ → Answer
  told : Bool → Answer

abbrev pub refusal_number : Refusal → ℕ
refusal_number Limit = 1
refusal_number Memory = 2
refusal_number Malformed = 3
refusal_number ShardLength = 4
refusal_number Keys = 5
refusal_number Room = 6
refusal_number NoJob = 7
refusal_number NoBlock = 8
refusal_number Buffer = 9

abbrev pub reason_number : Reason → ℕ
reason_number Stranger = 1
reason_number WrongIndex = 2
reason_number Equivocation = 3
reason_number BadAssigned = 4
reason_number BadPending = 5

-- the block in front of a blob, whose last four bytes are the config
abbrev pub block_in : List ℕ → List ℕ
block_in blob = take (length blob - 4) blob

abbrev pub blob_of : Phase → Option (List ℕ)
blob_of (awaiting w) = None
blob_of (cached blob) = Some blob

abbrev pub phase_of : Option Rec → Option Phase
phase_of None = None
phase_of (Some r) = Some r.phase

abbrev pub is_verified : Option Rec → Bool
is_verified None = false
is_verified (Some r) = r.verified

abbrev pub is_commitment : List ℕ → Bool
is_commitment c = is_ok (committed c)

abbrev pub is_key : List ℕ → Bool
is_key k = length k == 32

-- the first test that fails names the refusal
abbrev pub unless : Bool → Refusal → Option Refusal → Option Refusal
unless holds refusal next = cond holds next (Some refusal)

abbrev pub has_room : Limits → Rooms → Bool
has_room limits rooms = nat_le 512 rooms.reports && nat_le limits.shard rooms.broadcast

abbrev pub job_out : Option Rec → Bool
job_out None = false
job_out (Some r) = is_some (job_in r.phase)

abbrev pub gives : ℕ → Option Phase → Option Refusal
gives room None = Some NoBlock
gives room (Some (awaiting w)) = Some NoBlock
gives room (Some (cached blob)) = unless (nat_le (length (block_in blob)) room) Buffer None

-- why a call is turned down, in number order
abbrev pub turned_down : Limits → State → Call → Option Refusal
turned_down limits s (discovery c leader round rooms) = unless (is_commitment c && is_key leader) Malformed (unless (has_room limits rooms) Room None)
turned_down limits s (notarization c round rooms) = unless (is_commitment c) Malformed (unless (has_room limits rooms) Room None)
turned_down limits s (shard c peer x rooms) =
    unless (is_commitment c && is_key peer) Malformed (unless (nat_le (length x.bytes) limits.shard) ShardLength (unless (has_room limits rooms) Room None))
turned_down limits s (completion c rooms) =
    unless (is_commitment c) Malformed (unless (nat_le 512 rooms.reports) Room (unless (job_out (record_of c s)) NoJob None))
turned_down limits s (peer_change ks) = unless (nat_le (length ks) 64 && ascending ks) Keys None
turned_down limits s (block_look_up c room) = unless (is_commitment c) Malformed (gives room (phase_of (record_of c s)))
turned_down limits s (verified_look_up c) = unless (is_commitment c) Malformed None
