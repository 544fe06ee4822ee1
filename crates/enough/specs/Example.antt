-- A run that meets the premises of the first promise, and of the second for its first key: three keys, minimum two, one bad
-- shard. Each good shard is the whole blob. The one short completion is numbered 1, as many as participants less good shards,
-- so the first promise's bound is met. Assumes nothing.
use Rattle.std.specs.Prelude.{ℕ, ◌-◌, List, [], ◌∷◌, ◌++◌, length, take, replicate, Some, None, Ok, Err}
use Rattle.std.specs.Str.{bytes_eq}
use Rattle.block.specs.declared.kind.Reading.{Reading}
use Rattle.register.specs.declared.counters.Round.{Round}
use Rattle.scheme.specs.Pieces.{Indexed}
use Rattle.scheme.specs.Told.{Opened}
use Rattle.scheme.specs.declared.fault.Fault.TheVariants.{TooFew}
use Rattle.model.specs.Calls.{Answer, answered, given, Call, discovery, shard, completion, block_look_up, Rooms}
use Rattle.model.specs.Histories.{Assignment, Event, Leads}
use Rattle.model.specs.Intake.{ready}
use Rattle.model.specs.Meaning.{Meaning, Roster}
use Rattle.model.specs.Promises.{Blameless, Enough}
use Rattle.model.specs.State.{Limits, State}
use Rattle.model.specs.declared.answer.Outcome.TheVariants.{Held, Gain, Short, Rebuilt}
use Rattle.model.specs.declared.answer.Reason.TheVariants.{BadPending}

-- a digest that is short to compute: the first 32 bytes
abbrev pub front : List ℕ → List ℕ
front bytes = take 32 (bytes ++ replicate 32 0)

-- the block, and behind it minimum 2 and extra 1
abbrev pub block : List ℕ
block = 5 ∷ 6 ∷ []

abbrev pub config : List ℕ
config = 0 ∷ 2 ∷ 0 ∷ 1 ∷ []

abbrev pub blob : List ℕ
blob = block ++ config

abbrev pub commitment : List ℕ
commitment = front block ++ (front blob ++ (front [] ++ config))

abbrev pub first_of : List Indexed → Opened
first_of [] = Err TooFew
first_of (s ∷ shards) = Ok s.bytes

-- all but the last four bytes is the block, with no context
abbrev pub whole : List ℕ → Reading
whole bytes = record { len = length bytes - 4; context_from = 0; context_len = 0; digest = front (take (length bytes - 4) bytes) }

abbrev pub meaning : Meaning
meaning = record {
  digest = front;
  good = λ config root limit i bytes. bytes_eq (front bytes) root;
  opens = λ config root limit shards. first_of shards;
  reads = λ bytes. Some (whole bytes);
}

abbrev pub limits : Limits
limits = record { window = 1; boxes = 1; shard = 100; blob = 100 }

abbrev pub first_key : List ℕ
first_key = replicate 32 1

abbrev pub second_key : List ℕ
second_key = replicate 32 2

abbrev pub third_key : List ℕ
third_key = replicate 32 3

abbrev pub members : List (List ℕ)
members = first_key ∷ second_key ∷ third_key ∷ []

-- the members of every epoch; this node is none of them
abbrev pub assignment : Assignment
assignment = record { keys = λ _. members; own = λ _. None }

abbrev pub roster : Roster
roster = record { keys = λ _. Some members; own = λ _. None }

abbrev pub rooms : Rooms
rooms = record { reports = 512; broadcast = 100 }

abbrev pub round : Round
round = record { epoch = record { 0 = 7 }; view = record { 0 = 3 } }

abbrev pub bad : Indexed
bad = record { index = 2; bytes = [] }

abbrev pub good_at : ℕ → Indexed
good_at i = record { index = i; bytes = blob }

abbrev pub answers : Call → Answer → Event
answers call answer = record { roster = roster; call = call; answer = answer }

-- the latest first
abbrev pub history : List Event
history =
    answers (block_look_up commitment 2) (given block) ∷
    answers (completion commitment rooms) (answered (Rebuilt 2) [] None) ∷
    answers (shard commitment second_key (good_at 1) rooms) (answered Gain [] None) ∷
    answers (completion commitment rooms) (answered (Short 1) (record { key = third_key; reason = BadPending } ∷ []) None) ∷
    answers (shard commitment first_key (good_at 0) rooms) (answered Gain [] (Some ready)) ∷
    answers (shard commitment third_key bad rooms) (answered Gain [] None) ∷
    answers (discovery commitment first_key round rooms) (answered Held [] None) ∷ []

-- the history leads to a state, and enough was handed in
abbrev pub ExampleStands : Type 0
ExampleStands =
    (s : State) × Leads limits meaning assignment history s ×
    Enough limits meaning assignment history commitment (record { commitment = commitment; round = round }) (0 ∷ 1 ∷ [])

-- a member that the second promise speaks of: the first key keeps to the rules in that history, while the third is reported
abbrev pub BlamelessStands : Type 0
BlamelessStands = Blameless limits meaning assignment history first_key
