-- Classes, actions and what intake comes to, as the model has them. Assumes nothing.
use Rattle.std.specs.Prelude.{ℕ, ◌<◌, Bool, true, false, List, Some, None, Option}
use Rattle.scheme.specs.Pieces.{Indexed}
use Rattle.model.specs.Intake as model
use Rattle.model.specs.Intake.{Action, broadcast, ready, assigned, dropped, owned, rejected, stray}
use Rattle.record.specs.Joins.{Elsewhere}
use Rattle.record.specs.Sound.{SameJob, Sound}
use Rattle.record.specs.Views.{Memory, view}
use Rattle.record.specs.declared.record.Record.{Record}
use Rattle.record.specs.declared.slot.Slot.{Slot}
use Rattle.intake.specs.declared.class.Class.{Class}
use Rattle.intake.specs.declared.class.Class.TheVariants.{Assigned, Owned, Stray}
use Rattle.intake.specs.declared.class.Stage.{Stage}
use Rattle.intake.specs.declared.class.Stage.TheVariants.{Awaiting, Cached}
use Rattle.intake.specs.declared.taken.Act.{Act}
use Rattle.intake.specs.declared.taken.Act.TheVariants.{Broadcast, Ready}
use Rattle.intake.specs.declared.taken.Taken.{Taken}
use Rattle.intake.specs.declared.taken.Taken.TheVariants.{Dropped, Rejected, Gained}

abbrev pub class_of : Class → model.Class
class_of Assigned = assigned
class_of Owned = owned
class_of Stray = stray

-- an index that is the own one or the sender's is a member's
abbrev pub Within : Class → ℕ → Type 0
Within Assigned i = i < 64
Within Owned i = i < 64
Within Stray i = Unit {0}

abbrev pub action_of : Option Act → Indexed → Option Action
action_of None s = None
action_of (Some Broadcast) s = Some (broadcast s.bytes)
action_of (Some Ready) s = Some ready

abbrev pub bytes_of : Indexed → List ℕ
bytes_of s = s.bytes

-- the record as it is then, with what the call tells of the shard s
abbrev pub taken_as : Memory → List ℕ → ℕ → Record → Taken → Indexed → model.Taken
taken_as at c slot r Dropped s = dropped (view at c slot r)
taken_as at c slot r (Rejected reason) s = rejected reason (view at c slot r)
taken_as at c slot r (Gained action) s =
    record { rec = view at c slot r; report = None; action = action_of action s; gained = true }

-- the record can be read and has room as before; its job and other slots' places are as they were
pub record Kept (slot : Slot) (r s : Record) (before after : List ℕ) : Type 0 where
  pub sound : Sound slot.width s
  pub job : SameJob r s
  pub elsewhere : Elsewhere slot.width slot.number before after

-- intake that may have ended, else goes on
abbrev pub unless_settled : Memory → List ℕ → ℕ → Record → Indexed → Option Taken → model.Taken → model.Taken
unless_settled at c slot r s (Some t) next = taken_as at c slot r t s
unless_settled at c slot r s None next = next

abbrev pub stage_of : Bool → Stage
stage_of true = Cached
stage_of false = Awaiting
