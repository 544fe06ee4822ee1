-- Contributions: at most one for each index, and one more where an index contributes for the first time.
use Rattle.std.proofs.Common.{◌≡◌, ℕ, ◌+◌, ◌<◌, Bool, true, false, cond, List, length, get_or, set, arith, length-set}
use Rattle.std.proofs.lemmas.List.Sums.{count_by-le-length, sum_by-set}
use Rattle.record.specs.Joins.{OpenTo}
use Rattle.record.specs.Sound.{contributions}
use Rattle.record.specs.declared.record.Record.{Record}

-- one more, where the index had not contributed
pub contributions_more : (flags : List Bool) (i : ℕ) → i < length flags → get_or flags i false ≡ false → contributions (set flags i true) ≡ contributions flags + 1
contributions_more flags i h e = omega (arith, simp e at (sum_by-set (λ (b : Bool). cond b 1 0) flags i true false h))

-- an index that has not contributed leaves room for one more
pub contributions_less : (flags : List Bool) (i : ℕ) → i < length flags → get_or flags i false ≡ false → contributions flags < length flags
contributions_less flags i h e = omega (arith, contributions_more flags i h e, count_by-le-length (λ (b : Bool). b) (set flags i true), length-set flags i true)

-- a record that can keep a shard has room for it in each list
module _ (width : ℕ) (r : Record) (i : ℕ) (bytes : List ℕ) (o : OpenTo width r i bytes) where
  less : contributions r.contributed < 64
  less = omega (arith, contributions_less r.contributed i (omega (arith, o.within, o.sound.flags)) o.fresh, o.sound.flags)

  pub room_received : r.received_count < 64
  room_received = omega (arith, less, o.sound.received)

  pub room_checked : r.checked_count < 64
  room_checked = omega (arith, less, o.sound.used)

  pub room_pending : r.pending_count < 64
  room_pending = omega (arith, less, o.sound.used)
