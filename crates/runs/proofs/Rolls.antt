-- The roll has at every moment the records' commitments and rounds; records ascend and are within the window.
use Rattle.std.proofs.Common.{◌≡◌, ℕ, ◌≤◌, true, false, List, [], ◌∷◌, map, length, Some, None, Option, sym, refl, ap, ◌∙◌, subst, arith}
use Rattle.std.specs.Option.{option_map}
use Rattle.register.specs.Order.{order}
use Rattle.register.specs.declared.counters.Round.{Round}
use Rattle.scheme.specs.Pieces.{Indexed}
use Rattle.table.proofs.Carried.{changed_alike, changed_same, length-changed, length-put, map-changed, map-look, map-put, map-without, without_at_most}
use Rattle.table.specs.Laws.{Ascends, look}
use Rattle.table.specs.Table.{changed, put}
use Rattle.model.specs.Boxes.{all_drawn, all_left}
use Rattle.model.specs.Calls.{refused, answered, Call, discovery, notarization, shard, completion, peer_change, block_look_up, verified_look_up, Report, Rooms, phase_of, turned_down}
use Rattle.model.specs.Histories.{Assignment, Event, Leads, announces, commitment_of, fed, on_roll, raised, roll, round_of as rolled_round, says_held}
use Rattle.model.specs.Intake.{Action, intake}
use Rattle.model.specs.Jobs.{blob_in, numbered, passing, returned_in, tries}
use Rattle.model.specs.Meaning.{Meaning, Roster, opened_for}
use Rattle.model.specs.State.{Limits, Peer, Phase, cached, Rec, Sent, State, filed_under, new_record, record_of, round_of, with_leader, with_phase}
use Rattle.model.specs.Steps.{Ingested, Step, advanced, all_taken, began, block_given, box_intake, completion_of, discovery_of, done, ends, entered, notarization_of, observes, replaced, shard_of, stays, step, taken, unless_refused, wants, within_window}
use Rattle.model.specs.Window.{trimmed}
use Rattle.model.specs.declared.answer.Outcome.{Outcome}
use Rattle.model.specs.declared.answer.Outcome.TheVariants.{Held}
use Rattle.model.specs.declared.answer.Refusal.{Refusal}
use Rattle.runs.specs.Rolls.{Aligned, entry_of}
use Rattle.runs.proofs.Entries
use Rattle.runs.proofs.Intakes.{completes_ways, intake_ways}
use Rattle.runs.proofs.Ways.{AnnouncedWays, box_ways, completion_ways, discovery_ways, notarization_ways, shard_ways}

-- intake and a trial of a job leave commitment and round
pub intake_entry : (m : Meaning) (limit : ℕ) (keys : List (List ℕ)) (own : Option ℕ) (sender : List ℕ) (s : Indexed) (r : Rec) → entry_of (intake m limit keys own sender s r).rec ≡ entry_of r
intake_entry m limit keys own sender s r =
    intake_ways m limit keys own sender s r (λ t. entry_of t.rec ≡ entry_of r)
    (record {
      drops = refl;
      stranger = λ _. refl;
      strays = λ _ _ _. refl;
      equivocates = λ _ _ _ _ _. refl;
      bad = λ _. refl;
      verified = λ _ _ _ _ _ _. refl;
      waiting = λ _ _ _ _ _ _ _. refl;
    })

pub tries_entry : (r : Rec) → entry_of (tries r) ≡ entry_of r
unfolding tries
tries_entry r = refl

pub advanced_entry : (i : Ingested) → entry_of (advanced i) ≡ entry_of i.rec
advanced_entry i = grind (arith, tries_entry)

module _ (limits : Limits) (m : Meaning) (roster : Roster) where
  pub taken_entry : (keys : List (List ℕ)) (e : ℕ) (i : Ingested) (ps : List Sent) → entry_of (all_taken limits m roster keys e i ps).rec ≡ entry_of i.rec
  taken_entry keys e i [] = refl
  taken_entry keys e i (p ∷ ps) = grind (arith, intake_entry, taken_entry keys e (taken limits m roster keys e i p) ps)

  pub drawn_entry : (keys : List (List ℕ)) (x : Rec) (ps : List Sent) → entry_of (advanced (all_taken limits m roster keys x.round.epoch.0 (began x) ps)) ≡ entry_of x
  drawn_entry keys x ps = advanced_entry (all_taken limits m roster keys x.round.epoch.0 (began x) ps) ∙ taken_entry keys x.round.epoch.0 (began x) ps

-- what is found among the entries is the entry of the record that is found
roll_look : (c : List ℕ) (rs : List Rec) → on_roll c (map entry_of rs) ≡ option_map entry_of (look order filed_under c rs)
roll_look c rs = grind (arith, map-look)

-- the roll after a call, and what holds of the records then
pub record Follows (window : ℕ) (call : Call) (s : State) (t : Step) : Type 0 where
  pub follows : fed window t.answer call (map entry_of s.records) ≡ map entry_of t.state.records
  pub ascend : Ascends order filed_under t.state.records
  pub within : length t.state.records ≤ window

module _ (limits : Limits) (m : Meaning) (roster : Roster) (s : State) (up : Ascends order filed_under s.records) (few : length s.records ≤ limits.window) (c : List ℕ) (round : Round) where
  -- a call that announces c at the round
  record Announcing (t : Step) : Type 0 where
    follows : announces t.answer limits.window c round (map entry_of s.records) ≡ map entry_of (within_window limits m roster t).state.records
    ascend : Ascends order filed_under (within_window limits m roster t).state.records
    within : length (within_window limits m roster t).state.records ≤ limits.window

  still : (o : Outcome) → says_held o ≡ false → Announcing (stays limits m roster o s)
  still o unheld = grind arith

  stood : (o : Outcome) (ps : List Peer) (rs : List Report) (a : Option Action) (r x : Rec) → says_held o ≡ true → record_of c s ≡ Some r → entry_of x ≡ raised round (entry_of r) → Announcing (record { state = record { records = replaced x s.records; peers = ps }; answer = answered o rs a })
  stood o ps rs a r x held at same =
      let found : on_roll c (map entry_of s.records) ≡ Some (entry_of r) = grind (arith, roll_look) in
      let key : c ≡ x.commitment = sym (Entries.found_key filed_under c s.records r at) ∙ ap commitment_of (sym same) in
      let long : length (replaced x s.records) ≤ limits.window = grind (arith, length-changed) in
      let whole = Entries.trimmed_few round_of filed_under limits.window (replaced x s.records) long in
      record {
        follows =
            simp (held, found)
            (changed_alike order commitment_of (raised round) (λ _. entry_of x) c (map entry_of s.records) (entry_of r) found (sym same) ∙ ap (λ k. changed order commitment_of (λ _. entry_of x) k (map entry_of s.records)) key ∙ sym (map-changed order filed_under order commitment_of entry_of (λ _. x) (λ _. entry_of x) x.commitment x.commitment s.records (λ _. refl) (λ _. refl)) ∙ ap (map entry_of) (sym whole));
        ascend = subst (Ascends order filed_under) (sym whole) (Entries.replaced_ascends filed_under x s.records up);
        within = grind arith;
      }

  admitted : (o : Outcome) (ps : List Peer) (rs : List Report) (a : Option Action) (x : Rec) → says_held o ≡ true → record_of c s ≡ None → entry_of x ≡ record { commitment = c; round = round } → Announcing (record { state = record { records = put order filed_under x s.records; peers = ps }; answer = answered o rs a })
  admitted o ps rs a x held at same =
      let found : on_roll c (map entry_of s.records) ≡ None = grind (arith, roll_look) in
      let rose = (Entries.entry_laws filed_under).put_ascends x s.records up in
      let most = length-put order filed_under x s.records in
      record {
        follows =
            simp (held, found)
            (ap (λ e. trimmed rolled_round commitment_of limits.window (put order commitment_of e (map entry_of s.records))) (sym same) ∙ ap (trimmed rolled_round commitment_of limits.window) (sym (map-put order filed_under order commitment_of entry_of x s.records (λ _. refl))) ∙ sym (Entries.map-trimmed rolled_round commitment_of entry_of limits.window (put order filed_under x s.records)));
        ascend = Entries.trimmed_ascends round_of filed_under limits.window (put order filed_under x s.records) rose;
        within = Entries.trimmed-length round_of filed_under limits.window (put order filed_under x s.records) rose (omega arith);
      }

  -- box intake for x: what is shown of all records with its commitment and round is shown of the call
  drawing : (store : Rec → List Rec) (x : Rec) →
      ((ps : List Peer) (rs : List Report) (a : Option Action) (y : Rec) → entry_of y ≡ entry_of x → Announcing (record { state = record { records = store y; peers = ps }; answer = answered Held rs a })) →
      Announcing (box_intake limits m roster store x s)
  drawing store x shows =
      box_ways limits m roster s Announcing store x
      (λ _. shows s.peers [] None x refl)
      (λ keys _.
      let ps = all_drawn (wants limits m roster keys x) s.peers in
      let i = all_taken limits m roster keys x.round.epoch.0 (began x) ps in
      shows (all_left (wants limits m roster keys x) s.peers) i.reports i.action (advanced i) (drawn_entry limits m roster keys x ps))

  announcing : AnnouncedWays limits m roster s Announcing c round
  announcing = record {
    still = still;
    stood = λ o r held at _. stood o s.peers [] None r (observes limits m roster round r) held at refl;
    led = λ leader r at _ _. again (with_leader (Some leader) (observes limits m roster round r)) r at refl;
    again = λ r w at _ _. again (observes limits m roster round r) r at refl;
    new = λ leader none _ _. drawing (λ y. entered y s.records) (new_record c round leader) (λ ps rs a y entry. admitted Held ps rs a y refl none entry);
  }
    where
      again : (x r : Rec) → record_of c s ≡ Some r → entry_of x ≡ raised round (entry_of r) → Announcing (box_intake limits m roster (λ y. replaced y s.records) x s)
      again x r at same = drawing (λ y. replaced y s.records) x (λ ps rs a y entry. stood Held ps rs a r y refl at (entry ∙ same))

  discovered : (leader : List ℕ) → Announcing (discovery_of limits m roster c leader round s)
  discovered leader = discovery_ways limits m roster s Announcing c round announcing leader

  notarized : Announcing (notarization_of limits m roster c round s)
  notarized = notarization_ways limits m roster s Announcing c round announcing

module _ (limits : Limits) (m : Meaning) (roster : Roster) (s : State) (up : Ascends order filed_under s.records) (few : length s.records ≤ limits.window) where
  -- the records in the place of those before have the same entries
  record Same (rs : List Rec) : Type 0 where
    follows : map entry_of s.records ≡ map entry_of rs
    ascend : Ascends order filed_under rs
    within : length rs ≤ limits.window

  nothing : Same s.records
  nothing = grind arith

  kept : (c : List ℕ) (r x : Rec) → record_of c s ≡ Some r → entry_of x ≡ entry_of r → Same (replaced x s.records)
  kept c r x at same =
      let key : x.commitment ≡ c = ap commitment_of same ∙ Entries.found_key filed_under c s.records r at in
      let found : on_roll x.commitment (map entry_of s.records) ≡ Some (entry_of r) = grind (arith, roll_look) in
      record {
        follows = sym (map-changed order filed_under order commitment_of entry_of (λ _. x) (λ _. entry_of x) x.commitment x.commitment s.records (λ _. refl) (λ _. refl) ∙ changed_same order commitment_of (λ _. entry_of x) x.commitment (map entry_of s.records) (entry_of r) found same);
        ascend = Entries.replaced_ascends filed_under x s.records up;
        within = grind (arith, length-changed);
      }

  shard_same : (c peer : List ℕ) (x : Indexed) → Same (shard_of limits m roster c peer x s).state.records
  shard_same c peer x =
      shard_ways limits m roster s (λ t. Same t.state.records) c peer x
      (record {
        still = λ _. nothing;
        boxed = λ _. nothing;
        takes = λ r keys at _ _.
            let i = taken limits m roster keys r.round.epoch.0 (began r) (record { sender = peer; shard = x }) in
            kept c r (advanced i) at (advanced_entry i ∙ intake_entry m limits.blob keys (roster.own r.round.epoch.0) peer x r);
      })

  completed : (c : List ℕ) (rooms : Rooms) → Follows limits.window (completion c rooms) s (completion_of limits m roster c s)
  completed c rooms =
      completion_ways limits m roster s (Follows limits.window (completion c rooms) s) c
      (record { follows = refl; ascend = up; within = few })
      (λ r j at out.
      completes_ways m limits.blob j r (λ e. Follows limits.window (completion c rooms) s (ends limits m roster c j s e))
      (record {
        short = λ _.
            let x = with_phase (returned_in (passing m limits.blob r.commitment j) r.phase) (numbered r) in
            let same = kept c r (tries x) at (tries_entry x) in
            record { follows = same.follows; ascend = same.ascend; within = same.within };
        whole = λ reading _ _.
            let x = with_phase (cached (blob_in (opened_for m limits.blob r.commitment (passing m limits.blob r.commitment j)))) (numbered r) in
            let same = kept c r x at refl in
            record { follows = same.follows; ascend = same.ascend; within = same.within };
        fault = λ _ _ _.
            record {
              follows = grind (arith, map-without);
              ascend = (Entries.entry_laws filed_under).without_ascends c s.records up;
              within = grind (arith, without_at_most);
            };
      }))

  looked : (c : List ℕ) (room : ℕ) (o : Option Phase) → Follows limits.window (block_look_up c room) s (block_given limits m roster s o)
  looked c room o = grind arith

  done_follows : (call : Call) → Follows limits.window call s (done limits m roster s call)
  done_follows (discovery c leader round rooms) =
      let a = discovered limits m roster s up few c round leader in
      record { follows = a.follows; ascend = a.ascend; within = a.within }
  done_follows (notarization c round rooms) =
      let a = notarized limits m roster s up few c round in
      record { follows = a.follows; ascend = a.ascend; within = a.within }
  done_follows (shard c peer x rooms) =
      let same = shard_same c peer x in
      record { follows = same.follows; ascend = same.ascend; within = same.within }
  done_follows (completion c rooms) = completed c rooms
  done_follows (peer_change ks) = record { follows = refl; ascend = up; within = few }
  done_follows (block_look_up c room) = looked c room (phase_of (record_of c s))
  done_follows (verified_look_up c) = record { follows = refl; ascend = up; within = few }

  turned : (refusal : Refusal) (call : Call) → Follows limits.window call s (record { state = s; answer = refused refusal })
  turned refusal call = grind arith

  pub step_follows : (call : Call) → Follows limits.window call s (step limits m roster call s)
  unfolding step
  step_follows call =
      Entries.by_option (λ o. Follows limits.window call s (unless_refused limits m roster o s call)) (turned_down limits s call)
      (λ _. done_follows call) (λ refusal _. turned refusal call)

pub aligned : (limits : Limits) (m : Meaning) (a : Assignment) (h : List Event) (s : State) → Leads limits m a h s → Aligned limits h s
aligned limits m a [] s l =
    subst (λ t. Aligned limits [] t) (sym l) (record { follows = refl; ascend = tt; within = omega arith })
aligned limits m a (e ∷ h) s l =
    let before = l.0 in
    let old = aligned limits m a h before l.1 in
    let now = subst (Follows limits.window e.call before) l.3 (step_follows limits m e.roster before old.ascend old.within e.call) in
    record { follows = ap (fed limits.window e.answer e.call) old.follows ∙ now.follows; ascend = now.ascend; within = now.within }

module _ (limits : Limits) (m : Meaning) (a : Assignment) (h : List Event) (s : State) (l : Leads limits m a h s) where
  pub roll_follows : roll limits.window h ≡ map entry_of s.records
  roll_follows = (aligned limits m a h s l).follows

  pub records_ascend : Ascends order filed_under s.records
  records_ascend = (aligned limits m a h s l).ascend

  -- what the roll has of a commitment is its record's
  pub roll_record : (c : List ℕ) → on_roll c (roll limits.window h) ≡ option_map entry_of (record_of c s)
  roll_record c = grind (arith, roll_follows, roll_look)
