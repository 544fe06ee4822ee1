-- Every block that a look-up gave was handed in, in every history that leads to a state. Assumes nothing.
use Rattle.std.specs.Prelude.{List}
use Rattle.model.specs.Histories.{Assignment, Event, Leads}
use Rattle.model.specs.Meaning.{Meaning}
use Rattle.model.specs.Promises.{BlocksWereHandedIn}
use Rattle.model.specs.State.{Limits, State}

abbrev pub AlwaysHandedIn : Type 0
AlwaysHandedIn =
    (limits : Limits) (m : Meaning) (a : Assignment) (h : List Event) (s : State) → Leads limits m a h s → BlocksWereHandedIn limits m a h
