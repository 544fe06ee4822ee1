-- Which keys make a roster: at most 64, each above the one before it, the node's own, if any, among them.
use Rattle.std.specs.Prelude.{ℕ, cond, List, length, take, Some, None, Ok, Err, Option, Result, nat_lt}
use Rattle.register.specs.declared.key.Key.{Key}
use Rattle.rosters.specs.Sound.{all_bytes, ascending, bytes_of, index}
use Rattle.rosters.specs.declared.fault.Fault.{Fault}
use Rattle.rosters.specs.declared.fault.Fault.TheVariants.{TooManyKeys, NotAscending, OwnNotMember}
use Rattle.rosters.specs.declared.members.Members.{Members}

-- the keys and the own index
pub record Roll : Type 0 where
  pub keys : List (List ℕ)
  pub own : Option ℕ

abbrev pub roll : List (List ℕ) → Option ℕ → Roll
roll ks own = record { keys = ks; own = own }

abbrev pub keys_of : Members → List (List ℕ)
keys_of m = all_bytes (take m.count m.keys)

abbrev pub roll_of : Members → Roll
roll_of m = roll (keys_of m) m.own

-- the own place that a search came to
abbrev pub seat : Option ℕ → Result (Option ℕ) Fault
seat None = Err OwnNotMember
seat (Some i) = Ok (Some i)

abbrev pub seated : Option Key → List Key → Result (Option ℕ) Fault
seated None ks = Ok None
seated (Some k) ks = seat (index (bytes_of k) (all_bytes ks))

abbrev pub rolled : List (List ℕ) → Result (Option ℕ) Fault → Result Roll Fault
rolled ks (Ok own) = Ok (roll ks own)
rolled ks (Err e) = Err e

abbrev pub enrolled : Option Key → List Key → Result Roll Fault
enrolled own ks =
    cond (nat_lt 64 (length ks)) (Err TooManyKeys) (cond (ascending (all_bytes ks)) (rolled (all_bytes ks) (seated own ks)) (Err NotAscending))

abbrev pub told : Result Members Fault → Result Roll Fault
told (Ok m) = Ok (roll_of m)
told (Err e) = Err e
