-- What holds of every record between calls, so that its shards can be read and there is room for the next. Assumes nothing.
use Rattle.std.specs.Prelude.{◌≡◌, ℕ, ◌+◌, ◌<◌, ◌≤◌, Bool, true, false, List, length, take, slice_index_or}
use Rattle.std.specs.List.{All, count_by}
use Rattle.record.specs.declared.record.Record.{Record}
use Rattle.record.specs.declared.stored.Stored.{Stored}

-- how many indices have contributed
abbrev pub contributions : List Bool → ℕ
contributions = count_by (λ b. b)

-- a shard lies in a place of its own, within its width, and its index has contributed
pub record Lies (width : ℕ) (flags : List Bool) (s : Stored) : Type 0 where
  pub within : s.index.0 < 64
  pub short : s.len ≤ width
  pub counted : slice_index_or flags s.index.0 false ≡ true

-- how many shards each list has room for
pub record Rooms (r : Record) : Type 0 where
  pub received : length r.received ≡ 64
  pub checked : length r.checked ≡ 64
  pub pending : length r.pending ≡ 64

-- each shard and each completion used up a contribution of its own
pub record Sound (width : ℕ) (r : Record) : Type 0 where
  pub flags : length r.contributed ≡ 64
  pub received_room : length r.received ≡ 64
  pub checked_room : length r.checked ≡ 64
  pub pending_room : length r.pending ≡ 64
  pub received : r.received_count ≤ contributions r.contributed
  pub used : r.completions + r.checked_count + r.pending_count ≤ contributions r.contributed
  pub job_checked : r.job_checked ≤ r.checked_count
  pub job_pending : r.job_pending ≤ r.pending_count
  pub no_job : r.job ≡ false → (r.job_checked ≡ 0) × (r.job_pending ≡ 0)
  pub received_lie : All (Lies width r.contributed) (take r.received_count r.received)
  pub checked_lie : All (Lies width r.contributed) (take r.checked_count r.checked)
  pub pending_lie : All (λ p. Lies width r.contributed p.shard) (take r.pending_count r.pending)

-- a job holds at least the minimum
abbrev pub Filled : ℕ → Record → Type 0
Filled minimum r = r.job ≡ true → minimum ≤ r.job_checked + r.job_pending

-- the job is as it was
pub record SameJob (r s : Record) : Type 0 where
  pub out : s.job ≡ r.job
  pub checked : s.job_checked ≡ r.job_checked
  pub pending : s.job_pending ≡ r.job_pending
