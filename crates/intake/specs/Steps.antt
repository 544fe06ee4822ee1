-- What a step of intake does to the record of a home, as the model has it, wherever blobs lie. Assumes nothing.
use Rattle.std.specs.Prelude.{◌≡◌, ℕ, ◌<◌, ◌≤◌, Bool, List, length, Option}
use Rattle.scheme.specs.Pieces.{Indexed, indexed}
use Rattle.model.specs.Intake as model
use Rattle.model.specs.Intake.{Class, arrives, checks, from_member, received_at, unless_contributed, unless_received}
use Rattle.model.specs.Meaning.{Meaning, good_for}
use Rattle.model.specs.State.{Rec}
use Rattle.record.specs.Joins.{Housed}
use Rattle.record.specs.Views.{memory, shards_of, view}
use Rattle.record.specs.declared.record.Record.{Record}
use Rattle.record.specs.declared.slot.Slot.{Slot}
use Rattle.intake.specs.Classes.{taken_as, unless_settled}
use Rattle.intake.specs.declared.arrive.Home.{Home}
use Rattle.intake.specs.declared.class.Arrival.{Arrival}
use Rattle.intake.specs.declared.taken.Taken.{Taken}

-- the record can be read, with its shards in the slot's places, and the shard has a place there
pub record Fitting (slot : Slot) (r : Record) (shards : List ℕ) (x : Indexed) : Type 0 where
  pub housed : Housed slot r shards
  pub within : x.index < 64
  pub fits : length x.bytes ≤ slot.width

-- which shards are good for the home's commitment
abbrev pub good_in : Meaning → Home → Indexed → Bool
good_in m h = good_for m h.limit h.commitment.now.bytes

-- the shard that arrives
abbrev pub shard_of : Arrival → Indexed
shard_of a = indexed a.shard

-- the assigned shard x is checked at once
abbrev pub checked : (Indexed → Bool) → Option ℕ → Indexed → Rec → model.Taken
checked good own x r = checks (good x) own x r

module _ (good : Indexed → Bool) (a : Arrival) where
  -- it arrives at the record in its phase, as one of a class
  abbrev pub arrives_as : Class → Rec → model.Taken
  arrives_as class r = arrives good a.own a.sender.now.bytes (shard_of a) r r.phase class

  -- by the sender's place among the members
  abbrev pub arrives_from : Option ℕ → Rec → model.Taken
  arrives_from place r = from_member good a.own a.sender.now.bytes (shard_of a) r place

-- the record r becomes s, and the memory of shards `after`: with what the call tells of the shard x, that is what the rule
-- makes of the model's record before
abbrev pub Follows : Home → Indexed → Record → Record → List ℕ → List ℕ → Taken → (Rec → model.Taken) → Type 0
Follows h x r s before after t rule =
    (size : ℕ) (blobs : List ℕ) → taken_as (memory h.slot.width after size blobs) h.commitment.now.bytes h.slot.number s t x ≡ rule (view (memory h.slot.width before size blobs) h.commitment.now.bytes h.slot.number r)

-- before the block: what ends intake of the shard x, where a received or contributed index does
abbrev pub Settles : Home → Record → List ℕ → Indexed → Option Taken → Type 0
Settles h r shards x t =
    (size : ℕ) (blobs : List ℕ) (next : model.Taken) → let at = memory h.slot.width shards size blobs in let now = view at h.commitment.now.bytes h.slot.number r in unless_received (received_at x.index (shards_of at h.slot.number r)) x now (unless_contributed x now next) ≡ unless_settled at h.commitment.now.bytes h.slot.number r x t next
