-- No report without cause, in every history that leads to a state. Assumes nothing.
use Rattle.std.specs.Prelude.{List}
use Rattle.model.specs.Histories.{Assignment, Event, Leads}
use Rattle.model.specs.Meaning.{Meaning}
use Rattle.model.specs.Promises.{NobodyWithoutCause}
use Rattle.model.specs.State.{Limits, State}

abbrev pub NeverWithoutCause : Type 0
NeverWithoutCause =
    (limits : Limits) (m : Meaning) (a : Assignment) (h : List Event) (s : State) → Leads limits m a h s → NobodyWithoutCause limits m a h
