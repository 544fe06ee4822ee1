-- What each call can come to, with what led there: whatever holds of each way holds of the call.
use Rattle.std.proofs.Common.{◌≡◌, ℕ, true, false, List, [], is_some, Some, None, Option, refl, ap, arith}
use Rattle.register.specs.declared.counters.Round.{Round}
use Rattle.rosters.specs.Sound.{index}
use Rattle.scheme.specs.Pieces.{Indexed}
use Rattle.model.specs.Boxes.{all_drawn, all_left, boxes_with, is_primary}
use Rattle.model.specs.Calls.{refused, answered}
use Rattle.model.specs.Histories.{says_held}
use Rattle.model.specs.Jobs.{completes, job_in}
use Rattle.model.specs.Meaning.{Meaning, Roster}
use Rattle.model.specs.State.{Job, Limits, awaiting, Rec, Shards, State, filed_under, new_record, record_of, round_of, with_leader, with_peers, with_records}
use Rattle.model.specs.Steps.{Step, all_taken, began, boxes_shard, box_intake, completion_of, discovered_by, discovers, discovery_of, drew, ends, entered, enters, in_epoch, led_by, notarization_of, notarized_by, observes, replaced, same_epoch, shard_of, stays, takes_shard, too_early, wants}
use Rattle.model.specs.Window.{admits}
use Rattle.model.specs.declared.answer.Outcome.{Outcome}
use Rattle.model.specs.declared.answer.Outcome.TheVariants.{NoEpoch, NoMember, Held, Boxed}
use Rattle.model.specs.declared.answer.Refusal.TheVariants.{NoJob}
use Rattle.runs.proofs.Entries.{by_option, found_key}

module _ (limits : Limits) (m : Meaning) (roster : Roster) (s : State) (Q : Step → Type 0) where
  -- box intake draws nothing where the epoch is unknown
  pub box_ways : (store : Rec → List Rec) (r : Rec) → (roster.keys r.round.epoch.0 ≡ None → Q (record { state = with_records (store r) s; answer = answered Held [] None })) → ((keys : List (List ℕ)) → roster.keys r.round.epoch.0 ≡ Some keys → Q (drew limits m roster store Held (all_left (wants limits m roster keys r) s.peers) (all_taken limits m roster keys r.round.epoch.0 (began r) (all_drawn (wants limits m roster keys r) s.peers)))) → Q (box_intake limits m roster store r s)
  box_ways store r none some = grind arith

  -- discovery and notarization of c at a round
  pub record AnnouncedWays (c : List ℕ) (round : Round) : Type 0 where
    pub still : (o : Outcome) → says_held o ≡ false → Q (stays limits m roster o s)
    pub stood : (o : Outcome) (r : Rec) → says_held o ≡ true → record_of c s ≡ Some r → same_epoch r.round round ≡ true → Q (stays limits m roster o (with_records (replaced (observes limits m roster round r) s.records) s))
    pub led : (leader : List ℕ) (r : Rec) → record_of c s ≡ Some r → same_epoch r.round round ≡ true → r.leader ≡ None → Q (box_intake limits m roster (λ x. replaced x s.records) (with_leader (Some leader) (observes limits m roster round r)) s)
    pub again : (r : Rec) (w : Shards) → record_of c s ≡ Some r → same_epoch r.round round ≡ true → r.phase ≡ awaiting w → Q (box_intake limits m roster (λ x. replaced x s.records) (observes limits m roster round r) s)
    pub new : (leader : Option (List ℕ)) → record_of c s ≡ None → is_some (roster.keys round.epoch.0) ≡ true → admits round_of filed_under limits.window round s.records ≡ true → Q (box_intake limits m roster (λ x. entered x s.records) (new_record c round leader) s)

  module _ (c : List ℕ) (round : Round) (ways : AnnouncedWays c round) where
    entering : (leader : Option (List ℕ)) → record_of c s ≡ None → is_some (roster.keys round.epoch.0) ≡ true → Q (enters limits m roster c round leader s)
    entering leader none known = grind arith

    leading : (leader : List ℕ) (r : Rec) → record_of c s ≡ Some r → same_epoch r.round round ≡ true → Q (discovers limits m roster leader r.leader (observes limits m roster round r) s)
    leading leader r at same = grind arith

    pub discovery_ways : (leader : List ℕ) → Q (discovery_of limits m roster c leader round s)
    unfolding discovery_of
    discovery_ways leader =
        by_option (λ o. Q (in_epoch limits m roster o (λ keys. led_by limits m roster c leader round s (index leader keys)) s)) (roster.keys round.epoch.0)
        (λ _. ways.still NoEpoch refl)
        (λ keys known.
        by_option (λ o. Q (led_by limits m roster c leader round s o)) (index leader keys)
        (λ _. ways.still NoMember refl)
        (λ _ _.
        by_option (λ o. Q (discovered_by limits m roster c leader round s o)) (record_of c s)
        (λ none. grind (arith, entering))
        (λ r at. grind (arith, leading))))

    pub notarization_ways : Q (notarization_of limits m roster c round s)
    unfolding notarization_of
    notarization_ways =
        by_option (λ o. Q (notarized_by limits m roster c round s o)) (record_of c s)
        (λ none.
        by_option (λ o. Q (in_epoch limits m roster o (λ _. enters limits m roster c round None s) s)) (roster.keys round.epoch.0)
        (λ _. ways.still NoEpoch refl) (λ keys known. entering None none (ap is_some known)))
        (λ r at. grind arith)

  -- a shard from a peer
  pub record ShardWays (c peer : List ℕ) (x : Indexed) : Type 0 where
    pub still : (o : Outcome) → Q (stays limits m roster o s)
    pub boxed : is_primary peer s.peers ≡ true → Q (stays limits m roster Boxed (with_peers (boxes_with limits.boxes peer (record { commitment = c; shard = x }) s.peers) s))
    pub takes : (r : Rec) (keys : List (List ℕ)) → record_of c s ≡ Some r → roster.keys r.round.epoch.0 ≡ Some keys → too_early limits m roster r.leader (index peer keys) x.index ≡ false → Q (takes_shard limits m roster keys peer x r s)

  module _ (c peer : List ℕ) (x : Indexed) (ways : ShardWays c peer x) where
    boxing : Q (boxes_shard limits m roster c peer x s)
    unfolding boxes_shard
    boxing = grind arith

    pub shard_ways : Q (shard_of limits m roster c peer x s)
    unfolding shard_of
    shard_ways = grind (arith, boxing, found_key)

  -- a job is completed
  pub completion_ways : (c : List ℕ) → Q (record { state = s; answer = refused NoJob }) → ((r : Rec) (j : Job) → record_of c s ≡ Some r → job_in r.phase ≡ Some j → Q (ends limits m roster c j s (completes m limits.blob j r))) → Q (completion_of limits m roster c s)
  unfolding completion_of
  completion_ways c none some = grind arith
