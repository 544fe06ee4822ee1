-- The records of a state that a history leads to: they ascend, are within the window, and are what the roll says. Assumes nothing.
use Rattle.std.specs.Prelude.{◌≡◌, ◌≤◌, List, map, length}
use Rattle.register.specs.Order.{order}
use Rattle.table.specs.Laws.{Ascends}
use Rattle.model.specs.Histories.{Assignment, Entry, Event, Leads, roll}
use Rattle.model.specs.Meaning.{Meaning}
use Rattle.model.specs.State.{Limits, Rec, State, filed_under}

-- what the roll has of a record
abbrev pub entry_of : Rec → Entry
entry_of r = record { commitment = r.commitment; round = r.round }

pub record Aligned (limits : Limits) (h : List Event) (s : State) : Type 0 where
  pub follows : roll limits.window h ≡ map entry_of s.records
  pub ascend : Ascends order filed_under s.records
  pub within : length s.records ≤ limits.window

abbrev pub RollsFollow : Type 0
RollsFollow = (limits : Limits) (m : Meaning) (a : Assignment) (h : List Event) (s : State) → Leads limits m a h s → Aligned limits h s
