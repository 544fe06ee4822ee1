-- Jobs: what starts one, and what its completion comes to. Assumes nothing.
use Rattle.std.specs.Prelude.{ℕ, suc, ◌+◌, ◌-◌, cond, not, List, [], ◌++◌, map, length, take, drop, Some, None, Ok, Err, filter, Option, Result, nat_le, nat_lt}
use Rattle.block.specs.declared.kind.Reading.{Reading}
use Rattle.reconstruct.specs.declared.error.Error.{Error}
use Rattle.scheme.specs.Pieces.{Indexed}
use Rattle.scheme.specs.Told.{Opened}
use Rattle.model.specs.Meaning.{Meaning, good_for, minimum_of, opened_for, rebuilt_for}
use Rattle.model.specs.State.{Job, Phase, awaiting, cached, Rec, Sent, Shards, with_completions, with_phase}
use Rattle.model.specs.declared.answer.Outcome.{Outcome}
use Rattle.model.specs.declared.answer.Outcome.TheVariants.{Failed, Rebuilt, Short}

-- all checked, then pending in key order up to the minimum
abbrev pub takes : ℕ → Shards → Job
takes minimum w = record { checked = w.checked; pending = take (minimum - length w.checked) w.pending }

abbrev pub started : ℕ → Shards → Shards
started minimum w =
    record { received = w.received; checked = []; pending = drop (minimum - length w.checked) w.pending; job = Some (takes minimum w) }

-- a job starts if none is out and checked and pending reach the minimum
abbrev pub tried_with : ℕ → Option Job → Shards → Shards
tried_with minimum (Some j) w = w
tried_with minimum None w = cond (nat_le minimum (length w.checked + length w.pending)) (started minimum w) w

abbrev pub tried_in : ℕ → Phase → Phase
tried_in minimum (awaiting w) = awaiting (tried_with minimum w.job w)
tried_in minimum (cached blob) = cached blob

unfoldable pub tries : Rec → Rec
tries r = with_phase (tried_in (minimum_of r.commitment) r.phase) r

abbrev pub shard_of : Sent → Indexed
shard_of p = p.shard

-- the job that is out
abbrev pub job_in : Phase → Option Job
job_in (awaiting w) = w.job
job_in (cached blob) = None

module _ (m : Meaning) (limit : ℕ) (c : List ℕ) where
  -- the taken checked, then the taken pending that are good
  abbrev pub passing : Job → List Indexed
  passing j = j.checked ++ filter (good_for m limit c) (map shard_of j.pending)

  -- the senders of the bad ones, in key order
  abbrev pub failing : Job → List Sent
  failing j = filter (λ p. not (good_for m limit c p.shard)) j.pending

-- too few passed: they go behind the checked, and a job is tried
abbrev pub returned : List Indexed → Shards → Shards
returned shards w = record { received = w.received; checked = w.checked ++ shards; pending = w.pending; job = None }

abbrev pub returned_in : List Indexed → Phase → Phase
returned_in shards (awaiting w) = awaiting (returned shards w)
returned_in shards (cached blob) = cached blob

-- what a completion leaves of the record: nothing, where it failed
pub record Ended : Type 0 where
  pub rec : Option Rec
  pub outcome : Outcome

abbrev pub blob_in : Opened → List ℕ
blob_in (Ok blob) = blob
blob_in (Err f) = []

abbrev pub decoded : ℕ → Opened → Result Reading Error → Rec → Ended
decoded n opened (Ok reading) r = record { rec = Some (with_phase (cached (blob_in opened)) r); outcome = Rebuilt n }
decoded n opened (Err e) r = record { rec = None; outcome = Failed n e }

abbrev pub shortened : ℕ → List Indexed → Rec → Ended
shortened n shards r = record { rec = Some (tries (with_phase (returned_in shards r.phase) r)); outcome = Short n }

-- the completion with the next number
abbrev pub numbered : Rec → Rec
numbered r = with_completions (suc r.completions) r

unfoldable pub completes : Meaning → ℕ → Job → Rec → Ended
completes m limit j r =
    cond (nat_lt (length (passing m limit r.commitment j)) (minimum_of r.commitment))
    (shortened (suc r.completions) (passing m limit r.commitment j) (numbered r))
    (decoded (suc r.completions) (opened_for m limit r.commitment (passing m limit r.commitment j)) (rebuilt_for m limit r.commitment (passing m limit r.commitment j)) (numbered r))
