-- Trying a job and completing one keep a record sound; a short completion loses an index at least.
use Rattle.std.proofs.Common.{◌≡◌, ℕ, suc, ◌+◌, ◌<◌, ◌≤◌, Bool, not, List, [], ◌∷◌, ◌++◌, map, length, IfSome, Some, None, Ok, Err, filter, Option, Result, sym, refl, ap, subst, arith, length-append, length-take}
use Rattle.std.proofs.lemmas.Bool.{cond_both, ltb-true, not-true}
use Rattle.std.specs.List.{AllByRecursion}
use Rattle.block.specs.declared.kind.Reading.{Reading}
use Rattle.reconstruct.specs.declared.error.Error.{Error}
use Rattle.scheme.specs.Pieces.{Indexed}
use Rattle.scheme.specs.Told.{Opened}
use Rattle.model.specs.Intake.{index_of}
use Rattle.model.specs.Jobs.{Ended, completes, decoded, job_in, numbered, passing, returned, shard_of, shortened, tried_in, tried_with, tries}
use Rattle.model.specs.Meaning.{Meaning, good_for, minimum_of}
use Rattle.model.specs.Promises.{CachedAbove}
use Rattle.model.specs.declared.answer.Outcome.{Outcome}
use Rattle.model.specs.State.{Job, Phase, awaiting, cached, Rec, Sent, Shards, with_phase}
use Rattle.runs.proofs.Each.{all_append, all_drop, all_take}
use Rattle.runs.proofs.Records.{sent_at}
use Rattle.runs.proofs.Tallies.{tally, tally_append, tally_split}
use Rattle.enough.proofs.Counting.{itself}
use Rattle.enough.proofs.Held.{Checked, Given, GivenTo, InPhase, Lost, Pending, Settled, Sound, Waiting, few_with}

abbrev with_job : Option Job → Shards → Shards
with_job o w = record { received = w.received; checked = w.checked; pending = w.pending; job = o }

module _ (good : Indexed → Bool) where
  abbrev pub fails : Sent → Bool
  fails p = not (good p.shard)

  -- of pending shards the good and the bad make up all
  pub sorted_out : (i : ℕ) (ps : List Sent) → tally index_of i (filter good (map shard_of ps)) + tally itself i (map sent_at (filter fails ps)) ≡ tally sent_at i ps
  sorted_out i [] = omega arith
  sorted_out i (p ∷ ps) = grind (arith, sorted_out i ps)

  pub all_out : (ps : List Sent) → length (filter good (map shard_of ps)) + length (map sent_at (filter fails ps)) ≡ length ps
  all_out [] = omega arith
  all_out (p ∷ ps) = grind (arith, all_out ps)

module _ (good : Indexed → Bool) (minimum : ℕ) (keys : List (List ℕ)) (own : Option ℕ) (Hand : List ℕ → Indexed → Type 0) where
  pub good_checked : (ps : List Sent) → AllByRecursion (Pending good minimum keys own Hand) ps → AllByRecursion (Checked good minimum keys own Hand) (filter good (map shard_of ps))
  good_checked [] all = tt
  good_checked (p ∷ ps) all = grind (arith, good_checked ps all.1)

  bad_lost : (ps : List Sent) → AllByRecursion (Pending good minimum keys own Hand) ps → AllByRecursion (Lost good minimum keys own Hand) (map sent_at (filter (fails good) ps))
  bad_lost [] all = tt
  bad_lost (p ∷ ps) all =
      cond_both (fails good p) (p ∷ filter (fails good) ps) (filter (fails good) ps)
      (λ l. AllByRecursion (Lost good minimum keys own Hand) (map sent_at l))
      (λ t. (record { key = p.sender; bytes = p.shard.bytes; handed = all.0.handed; place = all.0.place; bad = not-true (good p.shard) t }, bad_lost ps all.1))
      (λ f. bad_lost ps all.1)

  module _ (flags : List Bool) (verified : Bool) where
    tried_job : (o : Option Job) (w : Shards) (lost : List ℕ) → Waiting good minimum keys own Hand flags verified (with_job o w) lost →
        Waiting good minimum keys own Hand flags verified (tried_with minimum o (with_job o w)) lost × few_with minimum (tried_with minimum o (with_job o w)).job (tried_with minimum o (with_job o w))
    tried_job (Some j) w lost k = (k, tt)
    tried_job None w lost k = grind (arith, tally_split, all_drop, all_take, length-take)

    pub tried_phase : (completions : ℕ) (ph : Phase) (lost : List ℕ) → InPhase good minimum keys own Hand flags verified completions lost ph →
        InPhase good minimum keys own Hand flags verified completions lost (tried_in minimum ph) × Settled minimum (tried_in minimum ph) × ((i : ℕ) → Given flags i ph → Given flags i (tried_in minimum ph))
    tried_phase completions (awaiting w) lost k = let t = tried_job w.job w lost k.0 in ((t.0, k.1), t.1, λ i h. h)
    tried_phase completions (cached blob) lost k = (k, tt, λ i h. h)

    -- what the bad ones of a job leave
    short_keeps : (j : Job) (w : Shards) (lost : List ℕ) → Waiting good minimum keys own Hand flags verified (with_job (Some j) w) lost →
        Waiting good minimum keys own Hand flags verified (returned (j.checked ++ filter good (map shard_of j.pending)) (with_job (Some j) w)) (map sent_at (filter (fails good) j.pending) ++ lost)
    short_keeps j w lost k = grind (arith, sorted_out, tally_append, all_append, good_checked)

    pub lost_once : (w : Shards) (lost : List ℕ) → Waiting good minimum keys own Hand flags verified w lost → (i : ℕ) → tally itself i lost ≤ 1
    lost_once w lost k i = grind arith

  -- what a completion leaves of a record, where it leaves one
  pub record Left (lost : List ℕ) (r : Rec) (outcome : Outcome) (left : Rec) : Type 0 where
    pub more : List ℕ
    pub sound : Sound good minimum keys own Hand more left
    pub losses : AllByRecursion (Lost good minimum keys own Hand) more
    pub settled : Settled minimum left.phase
    pub longer : length lost ≤ length more
    pub number : CachedAbove (length more) outcome
    pub grows : (i : ℕ) → GivenTo r i → GivenTo left i
    pub commitment : left.commitment ≡ r.commitment
    pub round : left.round ≡ r.round

module _ (m : Meaning) (limit : ℕ) (keys : List (List ℕ)) (own : Option ℕ) (Hand : List ℕ → Indexed → Type 0) (r : Rec) (j : Job) (w : Shards) (lost : List ℕ) where
  abbrev good' : Indexed → Bool
  good' = good_for m limit r.commitment

  abbrev minimum' : ℕ
  minimum' = minimum_of r.commitment

  abbrev out : Rec
  out = with_phase (awaiting (with_job (Some j) w)) r

  abbrev Ending : Ended → Type 0
  Ending e = IfSome e.rec (Left good' minimum' keys own Hand lost out e.outcome)

  module _ (k : Sound good' minimum' keys own Hand lost out) (losses : AllByRecursion (Lost good' minimum' keys own Hand) lost) where
    short_left : length (passing m limit r.commitment j) < minimum' → Ending (shortened (suc r.completions) (passing m limit r.commitment j) (numbered out))
    unfolding tries
    short_left few =
        let gone = map sent_at (filter (fails good') j.pending) in
        let kept = filter good' (map shard_of j.pending) in
        let a = length-append j.checked kept in
        let b = all_out good' j.pending in
        let n = length-append gone lost in
        let many : suc r.completions ≤ length (gone ++ lost) = omega (arith, k.0.job.2, k.1) in
        let t = tried_phase good' minimum' keys own Hand r.contributed r.verified (suc r.completions) (awaiting (returned (j.checked ++ kept) (with_job (Some j) w))) (gone ++ lost)
        (short_keeps good' minimum' keys own Hand r.contributed r.verified j w lost k.0, many) in
        record {
          more = gone ++ lost;
          sound = t.0;
          losses = grind (arith, all_append, bad_lost, losses);
          settled = t.1;
          longer = omega arith;
          number = many;
          grows = t.2;
          commitment = refl;
          round = refl;
        }

    decoded-left : (n : ℕ) (opened : Opened) (result : Result Reading Error) → Ending (decoded n opened result (numbered out))
    decoded-left n opened (Err e) = tt
    decoded-left n opened (Ok reading) =
        record {
          more = lost;
          sound = grind (arith, lost_once);
          losses = losses;
          settled = tt;
          longer = omega arith;
          number = tt;
          grows = λ i h. tt;
          commitment = refl;
          round = refl;
        }

    pub completed : Ending (completes m limit j out)
    unfolding completes
    completed = grind (arith, short_left, ltb-true, decoded-left)

-- the job that is out, in its phase
job_phase : (ph : Phase) (j : Job) → job_in ph ≡ Some j → (w : Shards) × (ph ≡ awaiting (with_job (Some j) w))
job_phase (awaiting w) j h = (w, ap (λ o. awaiting (with_job o w)) h)
job_phase (cached blob) j h = cc

pub ended_well : (m : Meaning) (limit : ℕ) (keys : List (List ℕ)) (own : Option ℕ) (Hand : List ℕ → Indexed → Type 0) (c : List ℕ) (r : Rec) (j : Job) (lost : List ℕ) →
    r.commitment ≡ c → job_in r.phase ≡ Some j → Sound (good_for m limit c) (minimum_of c) keys own Hand lost r → AllByRecursion (Lost (good_for m limit c) (minimum_of c) keys own Hand) lost →
    IfSome (completes m limit j r).rec (Left (good_for m limit c) (minimum_of c) keys own Hand lost r (completes m limit j r).outcome)
ended_well m limit keys own Hand c r j lost named at =
    let w = job_phase r.phase j at in
    subst (λ d. Sound (good_for m limit d) (minimum_of d) keys own Hand lost r → AllByRecursion (Lost (good_for m limit d) (minimum_of d) keys own Hand) lost →
    IfSome (completes m limit j r).rec (Left (good_for m limit d) (minimum_of d) keys own Hand lost r (completes m limit j r).outcome)) named
    (subst (λ ph. Sound (good_for m limit r.commitment) (minimum_of r.commitment) keys own Hand lost (with_phase ph r) → AllByRecursion (Lost (good_for m limit r.commitment) (minimum_of r.commitment) keys own Hand) lost →
    IfSome (completes m limit j (with_phase ph r)).rec (Left (good_for m limit r.commitment) (minimum_of r.commitment) keys own Hand lost (with_phase ph r) (completes m limit j (with_phase ph r)).outcome)) (sym w.1)
    (λ k losses. completed m limit keys own Hand r j w.0 lost k losses))
