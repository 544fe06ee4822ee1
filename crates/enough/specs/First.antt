-- The first promise, of every run. Assumes nothing.
use Rattle.std.specs.Prelude.{List}
use Rattle.model.specs.Histories.{Agrees, Assignment, Event, Leads}
use Rattle.model.specs.Meaning.{Meaning, Roster}
use Rattle.model.specs.Promises.{EnoughBringTheBlock}
use Rattle.model.specs.State.{Limits, State}
use Rattle.model.specs.Steps.{step}

abbrev pub EnoughAlways : Type 0
EnoughAlways =
    (limits : Limits) (m : Meaning) (a : Assignment) (h : List Event) (s : State) (roster : Roster) →
    Leads limits m a h s → Agrees a roster → EnoughBringTheBlock limits m a h (λ call. (step limits m roster call s).answer)
