-- What each call does to the state, and what it answers. Assumes nothing.
use Rattle.std.specs.Prelude.{ℕ, Bool, true, false, cond, ◌||◌, List, [], ◌∷◌, ◌++◌, map, is_some, Some, None, Option, ◌==◌}
use Rattle.register.specs.Order.{order}
use Rattle.register.specs.declared.counters.Round.{Round}
use Rattle.rosters.specs.Sound.{index}
use Rattle.scheme.specs.Pieces.{Indexed}
use Rattle.table.specs.Table.{changed, put, without}
use Rattle.model.specs.Boxes.{all_drawn, all_left, boxes_with, is_primary, renewed, wanted_by}
use Rattle.model.specs.Calls.{Answer, refused, answered, changed_peers, given, told, Call, discovery, notarization, shard, completion, peer_change, block_look_up, verified_look_up, Report, block_in, is_verified, phase_of, turned_down}
use Rattle.model.specs.Intake.{Action, Taken, intake}
use Rattle.model.specs.Jobs.{Ended, completes, failing, job_in, tries}
use Rattle.model.specs.Meaning.{Meaning, Roster}
use Rattle.model.specs.State.{Early, Job, Limits, Peer, Phase, awaiting, cached, Rec, Sent, State, filed_under, larger, new_record, record_of, round_of, with_leader, with_peers, with_records, with_round}
use Rattle.model.specs.Window.{admits, trimmed}
use Rattle.model.specs.declared.answer.Outcome.{Outcome}
use Rattle.model.specs.declared.answer.Outcome.TheVariants.{NoEpoch, NoMember, OtherEpoch, LeaderStands, Declined, Held, Cached, Ignored, Boxed, NotBoxed, Gain, NoGain}
use Rattle.model.specs.declared.answer.Reason.{Reason}
use Rattle.model.specs.declared.answer.Reason.TheVariants.{BadPending}
use Rattle.model.specs.declared.answer.Refusal.{Refusal}
use Rattle.model.specs.declared.answer.Refusal.TheVariants.{NoBlock, NoJob}

pub record Step : Type 0 where
  pub state : State
  pub answer : Answer

-- a record through several intakes: what it is then, the reports in order, the action if any, and whether one gained
pub record Ingested : Type 0 where
  pub rec : Rec
  pub reports : List Report
  pub action : Option Action
  pub gained : Bool

abbrev pub reported : List ℕ → Option Reason → List Report
reported k None = []
reported k (Some reason) = record { key = k; reason = reason } ∷ []

-- the later action, if there is one
abbrev pub latest : Option Action → Option Action → Option Action
latest before None = before
latest before (Some a) = Some a

abbrev pub began : Rec → Ingested
began r = record { rec = r; reports = []; action = None; gained = false }

abbrev pub and_then : Ingested → List ℕ → Taken → Ingested
and_then i k t =
    record { rec = t.rec; reports = i.reports ++ reported k t.report; action = latest i.action t.action; gained = i.gained || t.gained }

-- a gain ends with trying a job
abbrev pub advanced : Ingested → Rec
advanced i = cond i.gained (tries i.rec) i.rec

-- the records with r in the place of the one under its commitment
abbrev pub replaced : Rec → List Rec → List Rec
replaced r rs = changed order filed_under (λ _. r) r.commitment rs

abbrev pub entered : Rec → List Rec → List Rec
entered r rs = put order filed_under r rs

abbrev pub same_epoch : Round → Round → Bool
same_epoch a b = a.epoch.0 == b.epoch.0

abbrev pub by_phase : {X : Type 0} → Phase → X → X → X
by_phase (awaiting w) before after = before
by_phase (cached blob) before after = after

module _ (limits : Limits) (m : Meaning) (roster : Roster) where
  abbrev pub taken : List (List ℕ) → ℕ → Ingested → Sent → Ingested
  taken keys epoch i p = and_then i p.sender (intake m limits.blob keys (roster.own epoch) p.sender p.shard i.rec)

  -- shards through intake, one after the other
  abbrev pub all_taken : List (List ℕ) → ℕ → Ingested → List Sent → Ingested
  all_taken keys epoch i [] = i
  all_taken keys epoch i (p ∷ ps) = all_taken keys epoch (taken keys epoch i p) ps

  -- which entries of a box a record draws
  abbrev pub wants : List (List ℕ) → Rec → List ℕ → Early → Bool
  wants keys r = wanted_by r.commitment (is_some r.leader) keys

  abbrev pub drew : (Rec → List Rec) → Outcome → List Peer → Ingested → Step
  drew store outcome ps i = record { state = record { records = store (advanced i); peers = ps }; answer = answered outcome i.reports i.action }

  -- box intake for the record r, which `store` then puts among the records
  abbrev pub draws : (Rec → List Rec) → Outcome → Option (List (List ℕ)) → Rec → State → Step
  draws store outcome None r s = record { state = with_records (store r) s; answer = answered outcome [] None }
  draws store outcome (Some keys) r s =
      drew store outcome (all_left (wants keys r) s.peers) (all_taken keys r.round.epoch.0 (began r) (all_drawn (wants keys r) s.peers))

  abbrev pub box_intake : (Rec → List Rec) → Rec → State → Step
  box_intake store r s = draws store Held (roster.keys r.round.epoch.0) r s

  abbrev pub stays : Outcome → State → Step
  stays outcome s = record { state = s; answer = answered outcome [] None }

  -- a present record has taken the larger round, and has a leader or takes this one
  abbrev pub discovers : List ℕ → Option (List ℕ) → Rec → State → Step
  discovers leader (Some l) r s = stays LeaderStands (with_records (replaced r s.records) s)
  discovers leader None r s = box_intake (λ x. replaced x s.records) (with_leader (Some leader) r) s

  abbrev pub observes : Round → Rec → Rec
  observes round r = with_round (larger r.round round) r

  abbrev pub enters : List ℕ → Round → Option (List ℕ) → State → Step
  enters c round leader s =
      cond (admits round_of filed_under limits.window round s.records) (box_intake (λ x. entered x s.records) (new_record c round leader) s) (stays Declined s)

  abbrev pub discovered_by : List ℕ → List ℕ → Round → State → Option Rec → Step
  discovered_by c leader round s None = enters c round (Some leader) s
  discovered_by c leader round s (Some r) = cond (same_epoch r.round round) (discovers leader r.leader (observes round r) s) (stays OtherEpoch s)

  abbrev pub led_by : List ℕ → List ℕ → Round → State → Option ℕ → Step
  led_by c leader round s None = stays NoMember s
  led_by c leader round s (Some place) = discovered_by c leader round s (record_of c s)

  abbrev pub in_epoch : {X : Type 0} → Option X → (X → Step) → State → Step
  in_epoch None next s = stays NoEpoch s
  in_epoch (Some x) next s = next x

  unfoldable pub discovery_of : List ℕ → List ℕ → Round → State → Step
  discovery_of c leader round s = in_epoch (roster.keys round.epoch.0) (λ keys. led_by c leader round s (index leader keys)) s

  -- a present record has taken the larger round
  abbrev pub notarizes : Rec → State → Step
  notarizes r s = by_phase r.phase (box_intake (λ x. replaced x s.records) r s) (stays Cached (with_records (replaced r s.records) s))

  abbrev pub notarized_by : List ℕ → Round → State → Option Rec → Step
  notarized_by c round s None = in_epoch (roster.keys round.epoch.0) (λ _. enters c round None s) s
  notarized_by c round s (Some r) = cond (same_epoch r.round round) (notarizes (observes round r) s) (stays OtherEpoch s)

  unfoldable pub notarization_of : List ℕ → Round → State → Step
  notarization_of c round s = notarized_by c round s (record_of c s)

  -- a shard that comes early
  unfoldable pub boxes_shard : List ℕ → List ℕ → Indexed → State → Step
  boxes_shard c peer x s =
      cond (is_primary peer s.peers)
      (stays Boxed (with_peers (boxes_with limits.boxes peer (record { commitment = c; shard = x }) s.peers) s))
      (stays NotBoxed s)

  abbrev pub took : State → Ingested → Step
  took s i =
      record { state = with_records (replaced (advanced i) s.records) s; answer = answered (cond i.gained Gain NoGain) i.reports i.action }

  abbrev pub takes_shard : List (List ℕ) → List ℕ → Indexed → Rec → State → Step
  takes_shard keys peer x r s = took s (taken keys r.round.epoch.0 (began r) (record { sender = peer; shard = x }))

  -- without a leader only a member's shard at its own index, and a stranger's, goes on to intake
  abbrev pub too_early : Option (List ℕ) → Option ℕ → ℕ → Bool
  too_early (Some l) place i = false
  too_early None None i = false
  too_early None (Some place) i = cond (i == place) false true

  abbrev pub known_shard : List ℕ → Indexed → Rec → State → List (List ℕ) → Step
  known_shard peer x r s keys =
      cond (too_early r.leader (index peer keys) x.index) (boxes_shard r.commitment peer x s) (takes_shard keys peer x r s)

  abbrev pub shard_by : List ℕ → List ℕ → Indexed → State → Option Rec → Step
  shard_by c peer x s None = boxes_shard c peer x s
  shard_by c peer x s (Some r) =
      cond (by_phase r.phase false r.verified) (stays Ignored s)
      (in_epoch (roster.keys r.round.epoch.0) (known_shard peer x r s) s)

  unfoldable pub shard_of : List ℕ → List ℕ → Indexed → State → Step
  shard_of c peer x s = shard_by c peer x s (record_of c s)

  abbrev pub outlives : Option Rec → List ℕ → List Rec → List Rec
  outlives None c rs = without order filed_under c rs
  outlives (Some r) c rs = replaced r rs

  abbrev pub bad_senders : List Sent → List Report
  bad_senders ps = map (λ p. record { key = p.sender; reason = BadPending }) ps

  abbrev pub ends : List ℕ → Job → State → Ended → Step
  ends c j s e =
      record { state = with_records (outlives e.rec c s.records) s; answer = answered e.outcome (bad_senders (failing m limits.blob c j)) None }

  -- a call without a job out is turned down before
  abbrev pub completed_by : List ℕ → State → Rec → Option Job → Step
  completed_by c s r None = record { state = s; answer = refused NoJob }
  completed_by c s r (Some j) = ends c j s (completes m limits.blob j r)

  abbrev pub completion_by : List ℕ → State → Option Rec → Step
  completion_by c s None = record { state = s; answer = refused NoJob }
  completion_by c s (Some r) = completed_by c s r (job_in r.phase)

  unfoldable pub completion_of : List ℕ → State → Step
  completion_of c s = completion_by c s (record_of c s)

  abbrev pub block_given : State → Option Phase → Step
  block_given s None = record { state = s; answer = refused NoBlock }
  block_given s (Some (awaiting w)) = record { state = s; answer = refused NoBlock }
  block_given s (Some (cached blob)) = record { state = s; answer = given (block_in blob) }

  -- a call ends by evicting what is beyond the window
  abbrev pub within_window : Step → Step
  within_window t = record { state = with_records (trimmed round_of filed_under limits.window t.state.records) t.state; answer = t.answer }

  -- a call that is not turned down
  abbrev pub done : State → Call → Step
  done s (discovery c leader round rooms) = within_window (discovery_of c leader round s)
  done s (notarization c round rooms) = within_window (notarization_of c round s)
  done s (shard c peer x rooms) = shard_of c peer x s
  done s (completion c rooms) = completion_of c s
  done s (peer_change ks) = record { state = with_peers (renewed ks s.peers) s; answer = changed_peers }
  done s (block_look_up c room) = block_given s (phase_of (record_of c s))
  done s (verified_look_up c) = record { state = s; answer = told (is_verified (record_of c s)) }

  abbrev pub unless_refused : Option Refusal → State → Call → Step
  unless_refused (Some refusal) s call = record { state = s; answer = refused refusal }
  unless_refused None s call = done s call

  -- what a call comes to
  unfoldable pub step : Call → State → Step
  step call s = unless_refused (turned_down limits s call) s call
