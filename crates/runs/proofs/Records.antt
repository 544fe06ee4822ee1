-- What holds of every record: where its shards came from, that they are good or may be, and that each index counts once.
use Rattle.std.proofs.Common.{◌≡◌, ℕ, ◌+◌, ◌-◌, ◌<◌, ◌≤◌, Bool, true, false, leb, ◌⊎◌, List, [], ◌∷◌, ◌++◌, map, length, get_or, set, IfSome, Some, None, Ok, filter, Option, ap, ◌∙◌, inl, inr, arith, length-set, length-take}
use Rattle.std.proofs.lemmas.Grind.{common_steps}
use Rattle.std.proofs.lemmas.Bool.{cond_both, leb-true}
use Rattle.std.proofs.lemmas.List.{get_or-set_same}
use Rattle.std.specs.List.{AllByRecursion}
use Rattle.block.specs.declared.kind.Reading.{Reading}
use Rattle.reconstruct.specs.Rebuilt.{rebuilt}
use Rattle.register.specs.Order.{order}
use Rattle.register.specs.declared.counters.Round.{Round}
use Rattle.rosters.specs.Sound.{index}
use Rattle.scheme.specs.Pieces.{Indexed}
use Rattle.scheme.specs.Told.{Opened}
use Rattle.table.proofs.Carried.{all_put, all_weaker}
use Rattle.model.specs.Histories.{Assignment}
use Rattle.model.specs.Intake.{assigned, owned, classed, index_of, intake, joined, sender_of, verifies, waits, with_pending, with_received}
use Rattle.model.specs.Jobs.{blob_in, completes, failing, job_in, numbered, passing, returned_in, shard_of, started, tried_in, tried_with, tries}
use Rattle.model.specs.Meaning.{Meaning, Roster, fitted_for, good_for, minimum_of, opened_for}
use Rattle.model.specs.Promises.{Distinct}
use Rattle.model.specs.State.{Job, Limits, Phase, awaiting, cached, Rec, Sent, Shards, new_record, with_phase}
use Rattle.model.specs.Steps.{observes, same_epoch}
use Rattle.runs.proofs.Each.{all_append, all_drop, all_filter, all_map, all_take}
use Rattle.runs.proofs.Entries.{by_option}
use Rattle.runs.proofs.Intakes.{completes_ways, intake_ways}
use Rattle.runs.proofs.Places.{assigned_at, assigned_without, index_below, own_below}
use Rattle.runs.proofs.Reached.{Keeps, Seated}
use Rattle.runs.proofs.Tallies.{distinct, flag, flag_kept, flag_most, flag_set, tally, tally_append, tally_kept, tally_map, tally_put, tally_split}
use Rattle.std.specs.Ordering.{nat_cmp}

abbrev pub sent_at : Sent → ℕ
sent_at p = p.shard.index

-- how often an index stands in a job
abbrev pub at_job : ℕ → Option Job → ℕ
at_job i None = 0
at_job i (Some j) = tally index_of i j.checked + tally sent_at i j.pending

-- how often an index is in play: checked, pending, or out with the job
abbrev pub in_play : ℕ → Shards → ℕ
in_play i w = tally index_of i w.checked + tally sent_at i w.pending + at_job i w.job

-- H: handed in, of commitment, key and shard; A: announced, of commitment and epoch
module _ (limits : Limits) (m : Meaning) (a : Assignment) (H : List ℕ → List ℕ → Indexed → Type 0) (A : List ℕ → ℕ → Type 0) where
  pub record Checked (c : List ℕ) (e : ℕ) (x : Indexed) : Type 0 where
    pub good : good_for m limits.blob c x ≡ true
    pub below : x.index < length (a.keys e)
    pub sender : List ℕ
    pub handed : H c sender x

  -- a pending shard stands at its sender's index
  pub record Pending (c : List ℕ) (e : ℕ) (p : Sent) : Type 0 where
    pub handed : H c p.sender p.shard
    pub placed : index p.sender (a.keys e) ≡ Some p.shard.index

  -- a received shard is good, or the index's own key brought it and the index is not this node's
  pub record Received (c : List ℕ) (e : ℕ) (x : Indexed) : Type 0 where
    pub sender : List ℕ
    pub handed : H c sender x
    pub cause : (good_for m limits.blob c x ≡ true) ⊎ ((index sender (a.keys e) ≡ Some x.index) × (a.own e ≡ Some x.index → ⊥))

  pub record Out (c : List ℕ) (e : ℕ) (j : Job) : Type 0 where
    pub checked : AllByRecursion (Checked c e) j.checked
    pub pending : AllByRecursion (Pending c e) j.pending
    pub enough : minimum_of c ≤ length j.checked + length j.pending

  pub record Awaits (c : List ℕ) (e : ℕ) (flags : List Bool) (w : Shards) : Type 0 where
    pub received : AllByRecursion (Received c e) w.received
    pub checked : AllByRecursion (Checked c e) w.checked
    pub pending : AllByRecursion (Pending c e) w.pending
    pub job : IfSome w.job (Out c e)
    pub once : (i : ℕ) → in_play i w ≤ flag (get_or flags i false)

  -- a cached blob is what enough good shards at distinct indices opened to, and fits
  pub record OpenedFrom (c : List ℕ) (e : ℕ) (blob : List ℕ) : Type 0 where
    pub shards : List Indexed
    pub many : minimum_of c ≤ length shards
    pub distinct : Distinct (map index_of shards)
    pub each : AllByRecursion (Checked c e) shards
    pub opens : opened_for m limits.blob c shards ≡ Ok blob
    pub reading : Reading
    pub fits : fitted_for m limits.blob c blob ≡ Ok reading

  abbrev pub Holds : List ℕ → ℕ → List Bool → Phase → Type 0
  Holds c e flags (awaiting w) = Awaits c e flags w
  Holds c e flags (cached blob) = OpenedFrom c e blob

  -- verified on a node with an own index means that the index contributed
  pub record Fine (c : List ℕ) (e : ℕ) (flags : List Bool) (verified : Bool) (phase : Phase) : Type 0 where
    pub announced : A c e
    pub long : length flags ≡ 64
    pub own : (i : ℕ) → a.own e ≡ Some i → verified ≡ true → get_or flags i false ≡ true
    pub holds : Holds c e flags phase

  abbrev pub FineRecord : Rec → Type 0
  FineRecord r = Fine r.commitment r.round.epoch.0 r.contributed r.verified r.phase

  pub new_fine : (c : List ℕ) (round : Round) (leader : Option (List ℕ)) → A c round.epoch.0 → FineRecord (new_record c round leader)
  new_fine c round leader named = grind (arith, common_steps)

  pub observed_fine : (roster : Roster) (round : Round) (r : Rec) → same_epoch r.round round ≡ true → FineRecord r → FineRecord (observes limits m roster round r)
  observed_fine roster round r same fine = grind arith

  -- a shard of an index that has not contributed, in the two places that it can go to
  module _ (c : List ℕ) (e : ℕ) (flags : List Bool) (s : Indexed) (long : length flags ≡ 64) (small : s.index < 64) (down : get_or flags s.index false ≡ false) where
    joins : (w : Shards) → Checked c e s → Awaits c e flags w → Awaits c e (set flags s.index true) (with_received s (w.checked ++ s ∷ []) w)
    joins w checked h = record {
      received = all_put nat_cmp index_of (Received c e) s w.received (record { sender = checked.sender; handed = checked.handed; cause = inl checked.good }) h.received;
      checked = grind (arith, all_append);
      pending = h.pending;
      job = h.job;
      once = λ i. grind (arith, flag_set, tally_append);
    }

    pends : (sender : List ℕ) (w : Shards) → H c sender s → index sender (a.keys e) ≡ Some s.index → (a.own e ≡ Some s.index → ⊥) → Awaits c e flags w → Awaits c e (set flags s.index true) (with_pending (record { sender = sender; shard = s }) w)
    pends sender w handed placed apart h = record {
      received = all_put nat_cmp index_of (Received c e) s w.received (record { sender = sender; handed = handed; cause = inr (placed, apart) }) h.received;
      checked = h.checked;
      pending = all_put order sender_of (Pending c e) (record { sender = sender; shard = s }) w.pending (record { handed = handed; placed = placed }) h.pending;
      job = h.job;
      once = λ i. let r = flag_set flags s.index i (omega arith) down in let n = h.once i in let t = tally_put sent_at order sender_of i (record { sender = sender; shard = s }) w.pending in omega arith;
    }

    joined_holds : (p : Phase) → Checked c e s → Holds c e flags p → Holds c e (set flags s.index true) (joined s p)
    joined_holds (awaiting w) checked h = joins w checked h
    joined_holds (cached blob) checked h = h

  -- one shard through intake
  module _ (keys : List (List ℕ)) (own : Option ℕ) (sender : List ℕ) (s : Indexed) (r : Rec) (seat : Seated a r.round.epoch.0 keys own) (handed : H r.commitment sender s) (fine : FineRecord r) where
    -- a member's index, the own one or its sender's, is below the members
    within : (i : ℕ) → i < length keys → i < length (a.keys r.round.epoch.0)
    within i h = grind arith

    few : length keys ≤ 64
    few = seat.fair.0

    assigned_below : (place : ℕ) → index sender keys ≡ Some place → classed own r.leader sender place s.index ≡ assigned → s.index < length keys
    assigned_below place at class = grind (arith, assigned_without, index_below, assigned_at, own_below)

    own_stays : (i : ℕ) → (a.own r.round.epoch.0 ≡ Some i → r.verified ≡ true → get_or r.contributed i false ≡ true) → a.own r.round.epoch.0 ≡ Some i → r.verified ≡ true → get_or (set r.contributed s.index true) i false ≡ true
    own_stays i h is seen = grind (arith, flag_kept)

    verifies_fine : (place : ℕ) → index sender keys ≡ Some place → classed own r.leader sender place s.index ≡ assigned → get_or r.contributed s.index false ≡ false → good_for m limits.blob r.commitment s ≡ true → FineRecord (verifies own s r).rec
    verifies_fine place at class down good =
        let l = assigned_below place at class in
        let n = few in
        let long = fine.long in
        record {
          announced = fine.announced;
          long = length-set r.contributed s.index true ∙ long;
          own = λ i is _. grind (arith, assigned_at, get_or-set_same);
          holds =
              joined_holds r.commitment r.round.epoch.0 r.contributed s long (omega arith) down r.phase
              (record { good = good; below = within s.index l; sender = sender; handed = handed }) fine.holds;
        }

    waits_fine : (w : Shards) → r.phase ≡ awaiting w → index sender keys ≡ Some s.index → (own ≡ Some s.index → ⊥) → get_or r.contributed s.index false ≡ false → FineRecord (waits sender s w r).rec
    waits_fine w early at apart down =
        let l = index_below sender keys s.index at in
        let n = few in
        let long = fine.long in
        record {
          announced = fine.announced;
          long = length-set r.contributed s.index true ∙ long;
          own = λ i is seen. own_stays i (fine.own i) is seen;
          holds = grind (arith, pends);
        }

    -- a shard that waits is at its sender's index, which is not this node's
    pub waits_placed : (place : ℕ) → get_or r.contributed s.index false ≡ false → ((classed own r.leader sender place s.index ≡ assigned) × (r.verified ≡ true)) ⊎ (classed own r.leader sender place s.index ≡ owned) → (s.index ≡ place) × (own ≡ Some s.index → ⊥)
    waits_placed place down class = grind arith

    pub taken_fine : FineRecord (intake m limits.blob keys own sender s r).rec
    taken_fine =
        intake_ways m limits.blob keys own sender s r (λ t. FineRecord t.rec)
        (record {
          drops = fine;
          stranger = λ _. fine;
          strays = λ _ _ _. fine;
          equivocates = λ _ _ _ _ _. fine;
          bad = λ _. fine;
          verified = λ place at class down _ good. verifies_fine place at class down good;
          waiting = λ place w at early _ down class. grind (arith, waits_placed, waits_fine);
        })

  -- a job that starts takes shards over as they are
  starts : (c : List ℕ) (e : ℕ) (flags : List Bool) (w : Shards) → minimum_of c ≤ length w.checked + length w.pending → Awaits c e flags w → Awaits c e flags (started (minimum_of c) w)
  starts c e flags w many h =
      let n = minimum_of c - length w.checked in
      record {
        received = h.received;
        checked = tt;
        pending = all_drop (Pending c e) n w.pending h.pending;
        job = record {
          checked = h.checked;
          pending = all_take (Pending c e) n w.pending h.pending;
          enough = let l = length-take n w.pending in omega arith;
        };
        once = λ i. grind (arith, tally_split);
      }

  tried_holds : (c : List ℕ) (e : ℕ) (flags : List Bool) (p : Phase) → Holds c e flags p → Holds c e flags (tried_in (minimum_of c) p)
  tried_holds c e flags (awaiting w) h =
      by_option (λ o. Awaits c e flags (tried_with (minimum_of c) o w)) w.job
      (λ _.
      cond_both (leb (minimum_of c) (length w.checked + length w.pending)) (started (minimum_of c) w) w (Awaits c e flags)
      (λ t. starts c e flags w (leb-true (minimum_of c) (length w.checked + length w.pending) t) h) (λ _. h))
      (λ j _. h)
  tried_holds c e flags (cached blob) h = h

  pub tried_fine : (r : Rec) → FineRecord r → FineRecord (tries r)
  unfolding tries
  tried_fine r fine = record {
    announced = fine.announced;
    long = fine.long;
    own = fine.own;
    holds = grind (arith, tried_holds);
  }

  -- a pending shard that is good counts as checked
  good_pending : (c : List ℕ) (e : ℕ) (ps : List Sent) → AllByRecursion (Pending c e) ps → AllByRecursion (Checked c e) (filter (good_for m limits.blob c) (map shard_of ps))
  good_pending c e ps all =
      let Brought : Indexed → Type 0 = λ x. (k : List ℕ) × H c k x × (index k (a.keys e) ≡ Some x.index) in
      all_filter Brought (Checked c e) (good_for m limits.blob c)
      (λ x t b. record { good = t; below = index_below b.0 (a.keys e) x.index b.2; sender = b.0; handed = b.1 }) (map shard_of ps)
      (all_map Brought shard_of ps (all_weaker (Pending c e) (λ p. Brought p.shard) (λ p k. (p.sender, k.handed, k.placed)) ps all))

  pub passing_checked : (c : List ℕ) (e : ℕ) (j : Job) → Out c e j → AllByRecursion (Checked c e) (passing m limits.blob c j)
  passing_checked c e j out = grind (arith, all_append, good_pending)

  pub passing_once : (c : List ℕ) (i : ℕ) (j : Job) → tally index_of i (passing m limits.blob c j) ≤ at_job i (Some j)
  passing_once c i j = grind (arith, tally_append, tally_kept, tally_map)

  -- the job that is out, from the phase
  pub out_of : (c : List ℕ) (e : ℕ) (flags : List Bool) (p : Phase) (j : Job) → job_in p ≡ Some j → Holds c e flags p → Out c e j
  out_of c e flags p j out h = grind arith

  out_once : (c : List ℕ) (e : ℕ) (flags : List Bool) (p : Phase) (j : Job) → job_in p ≡ Some j → Holds c e flags p → (i : ℕ) → at_job i (Some j) ≤ 1
  out_once c e flags (awaiting w) j out h i =
      let n = h.once i in
      let same = ap (at_job i) out in
      let most = flag_most (get_or flags i false) in
      omega arith
  out_once c e flags (cached blob) j out h i = cc

  returned_holds : (c : List ℕ) (e : ℕ) (flags : List Bool) (p : Phase) (j : Job) → job_in p ≡ Some j → Holds c e flags p → Holds c e flags (returned_in (passing m limits.blob c j) p)
  returned_holds c e flags (awaiting w) j out h =
      let shards = passing m limits.blob c j in
      record {
        received = h.received;
        checked = all_append (Checked c e) w.checked shards h.checked (passing_checked c e j (out_of c e flags (awaiting w) j out h));
        pending = h.pending;
        job = tt;
        once = λ i. grind (arith, tally_append, passing_once);
      }
  returned_holds c e flags (cached blob) j out h = h

  -- shards that give a block opened to a blob that fits
  rebuilt_parts : (c : List ℕ) (o : Opened) (reading : Reading) → rebuilt m.digest m.reads c o ≡ Ok reading → (o ≡ Ok (blob_in o)) × (fitted_for m limits.blob c (blob_in o) ≡ Ok reading)
  rebuilt_parts c o reading h = grind arith

  pub completed_fine : (j : Job) (r : Rec) → job_in r.phase ≡ Some j → FineRecord r → IfSome (completes m limits.blob j r).rec FineRecord
  completed_fine j r out fine =
      let c = r.commitment in
      let e = r.round.epoch.0 in
      let flags = r.contributed in
      let shards = passing m limits.blob c j in
      completes_ways m limits.blob j r (λ t. IfSome t.rec FineRecord)
      (record {
        short = λ _.
            tried_fine (with_phase (returned_in shards r.phase) (numbered r))
            (record { announced = fine.announced; long = fine.long; own = fine.own; holds = returned_holds c e flags r.phase j out fine.holds });
        whole = λ reading many whole.
            let parts = rebuilt_parts c (opened_for m limits.blob c shards) reading whole in
            record {
              announced = fine.announced;
              long = fine.long;
              own = fine.own;
              holds = record {
                shards = shards;
                many = many;
                distinct = grind (arith, distinct, passing_once, out_once);
                each = passing_checked c e j (out_of c e flags r.phase j out fine.holds);
                opens = parts.0;
                reading = reading;
                fits = parts.1;
              };
            };
        fault = λ _ _ _. tt;
      })

  -- what holds of records is kept, whatever is shown of the keys that are reported
  pub fine_keeps : (R : List ℕ → Type 0) →
      ((keys : List (List ℕ)) (own : Option ℕ) (sender : List ℕ) (s : Indexed) (r : Rec) → Seated a r.round.epoch.0 keys own → H r.commitment sender s → FineRecord r → IfSome (intake m limits.blob keys own sender s r).report (λ _. R sender)) →
      ((j : Job) (r : Rec) → job_in r.phase ≡ Some j → FineRecord r → AllByRecursion (λ p. R p.sender) (failing m limits.blob r.commitment j)) →
      Keeps limits m a H A FineRecord R
  fine_keeps R spared blamed = record {
    new = new_fine;
    observed = observed_fine;
    led = λ leader r fine. fine;
    taken = λ keys own sender s r seat handed fine. (taken_fine keys own sender s r seat handed fine, spared keys own sender s r seat handed fine);
    tried = tried_fine;
    completed = completed_fine;
    blamed = blamed;
  }
