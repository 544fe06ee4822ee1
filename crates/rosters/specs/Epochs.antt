-- The rosters of several epochs: each epoch's keys stay, and the epoch is known or not.
use Rattle.std.specs.Prelude.{◌≡◌, ℕ, Bool, true, cond, List, take, Some, None, Ok, Err, Option, Result, ◌≢◌}
use Rattle.std.specs.declared.cmp.Ordering.{Ordering}
use Rattle.std.specs.Option.{option_map}
use Rattle.register.specs.declared.counters.Epoch.{Epoch}
use Rattle.table.specs.Laws.{look}
use Rattle.table.specs.Table.{changed, put}
use Rattle.table.specs.declared.Refusal.{Refusal}
use Rattle.table.specs.declared.Refusal.TheVariants.{Overrun, Full, Present, Absent}
use Rattle.rosters.specs.Enrolled.{Roll, keys_of, roll_of}
use Rattle.rosters.specs.declared.epochs.Row.{Row}
use Rattle.rosters.specs.declared.epochs.Table.{Table}
use Rattle.rosters.specs.declared.fault.Fault.{Fault}
use Rattle.rosters.specs.declared.fault.Fault.TheVariants.{TooManyEpochs, EpochTwice}
use Rattle.rosters.specs.declared.members.Members.{Members}
use Rattle.std.specs.Ordering.{nat_cmp}

abbrev pub by_number : Epoch → Epoch → Ordering
by_number a b = nat_cmp a.0 b.0

abbrev pub epoch_of : Row → Epoch
epoch_of r = r.epoch

abbrev pub rows_of : Table → List Row
rows_of t = take t.count t.rows

abbrev pub numbered : ℕ → Epoch
numbered e = record { 0 = e }

-- the row of an epoch
abbrev pub row : ℕ → List Row → Option Row
row e rs = look by_number epoch_of (numbered e) rs

-- what a row tells: nothing while its epoch is unknown
abbrev pub keys_told : Option Row → Option (List (List ℕ))
keys_told None = None
keys_told (Some r) = cond r.known (Some (keys_of r.members)) None

abbrev pub own_told : Option Row → Option ℕ
own_told None = None
own_told (Some r) = cond r.known r.members.own None

-- the answer to a new epoch
abbrev pub filed : Result ℕ Refusal → Result (Unit {0}) Fault
filed (Ok i) = Ok tt
filed (Err Present) = Err EpochTwice
filed (Err Overrun) = Err TooManyEpochs
filed (Err Full) = Err TooManyEpochs
filed (Err Absent) = Err TooManyEpochs

abbrev pub with_known : Bool → Row → Row
with_known known r = record { epoch = r.epoch; known = known; members = r.members }

-- the rows with that of the epoch e known or not
abbrev pub switched : ℕ → Bool → List Row → List Row
switched e known rs = changed by_number epoch_of (with_known known) (numbered e) rs

-- what stays: every epoch's keys and own index, whether it is known or not
abbrev pub filed_under : ℕ → List Row → Option Roll
filed_under e rs = option_map (λ r. roll_of r.members) (row e rs)

abbrev pub new_row : ℕ → Members → Row
new_row e m = record { epoch = numbered e; known = true; members = m }

pub record Laws : Type 0 where
  -- a switch changes no keys, and tells or hides those of its epoch only
  pub switch_files : (e j : ℕ) (known : Bool) (rs : List Row) → filed_under j (switched e known rs) ≡ filed_under j rs
  pub switch_own : (e : ℕ) (known : Bool) (rs : List Row) → row e (switched e known rs) ≡ option_map (with_known known) (row e rs)
  pub switch_others : (e j : ℕ) (known : Bool) (rs : List Row) → (e ≢ j) → row j (switched e known rs) ≡ row j rs
  -- a new epoch is filed under its number, and the others stay
  pub add_own : (e : ℕ) (m : Members) (rs : List Row) → row e rs ≡ None → row e (put by_number epoch_of (new_row e m) rs) ≡ Some (new_row e m)
  pub add_others : (e j : ℕ) (m : Members) (rs : List Row) → (e ≢ j) → row j (put by_number epoch_of (new_row e m) rs) ≡ row j rs
