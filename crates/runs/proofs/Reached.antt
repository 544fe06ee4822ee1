-- What each call keeps of every record, and of the keys that it reports, holds in every state that a history leads to.
use Rattle.std.proofs.Common.{◌≡◌, ℕ, true, List, [], ◌∷◌, is_some, IfSome, Some, None, Option, sym, refl, subst, arith, inr}
use Rattle.std.specs.List.{AllByRecursion}
use Rattle.register.specs.Order.{order}
use Rattle.register.specs.declared.counters.Round.{Round}
use Rattle.rosters.specs.Roster.{Fair}
use Rattle.scheme.specs.Pieces.{Indexed}
use Rattle.table.proofs.Carried.{all_changed, all_look, all_put, all_without}
use Rattle.model.specs.Boxes.{all_drawn}
use Rattle.model.specs.Calls.{Answer, refused, answered, changed_peers, given, told, Call, discovery, notarization, shard, completion, peer_change, block_look_up, verified_look_up, Report, phase_of, turned_down}
use Rattle.model.specs.Histories.{Agrees, Announced, Assignment, Brings, Counts, Event, HandedIn, Leads, Names}
use Rattle.model.specs.Intake.{intake}
use Rattle.model.specs.Jobs.{completes, failing, job_in, tries}
use Rattle.model.specs.Meaning.{Meaning, Roster}
use Rattle.model.specs.State.{Job, Limits, Phase, Rec, Sent, State, filed_under, new_record, record_of, round_of, with_leader}
use Rattle.model.specs.Steps.{Ingested, Step, advanced, all_taken, began, block_given, box_intake, completion_of, done, entered, observes, outlives, replaced, reported, same_epoch, shard_of, step, taken, unless_refused, wants, within_window}
use Rattle.model.specs.declared.answer.Reason.{Reason}
use Rattle.runs.proofs.Boxes.{Filled, boxed-filled, drawn_brought, left-filled, renewed-filled}
use Rattle.runs.proofs.Each.{all_append, all_map}
use Rattle.runs.proofs.Entries.{all_trimmed, by_option, found_key}
use Rattle.runs.proofs.Rolls.{intake_entry}
use Rattle.runs.proofs.Ways.{AnnouncedWays, box_ways, completion_ways, discovery_ways, notarization_ways, shard_ways}

-- the keys and the own index that a roster tells of an epoch are those assigned
pub record Seated (a : Assignment) (e : ℕ) (keys : List (List ℕ)) (own : Option ℕ) : Type 0 where
  pub keys_are : keys ≡ a.keys e
  pub own_is : own ≡ a.own e
  pub fair : Fair (Some keys) own

pub seated : (a : Assignment) (roster : Roster) (e : ℕ) (keys : List (List ℕ)) → Agrees a roster → roster.keys e ≡ Some keys → Seated a e keys (roster.own e)
seated a roster e keys agrees known = grind arith

-- every key that an answer reports is one of which R holds
abbrev pub Reports : (List ℕ → Type 0) → Answer → Type 0
Reports R (answered o rs x) = AllByRecursion (λ (r : Report). R r.key) rs
Reports R (refused n) = Unit {0}
Reports R changed_peers = Unit {0}
Reports R (given b) = Unit {0}
Reports R (told b) = Unit {0}

-- H: handed in, of commitment, key and shard; A: announced, of commitment and epoch; P holds of every record, R of every key reported
module _ (limits : Limits) (m : Meaning) (a : Assignment) (H : List ℕ → List ℕ → Indexed → Type 0) (A : List ℕ → ℕ → Type 0) (P : Rec → Type 0) (R : List ℕ → Type 0) where
  pub record Keeps : Type 0 where
    pub new : (c : List ℕ) (round : Round) (leader : Option (List ℕ)) → A c round.epoch.0 → P (new_record c round leader)
    pub observed : (roster : Roster) (round : Round) (r : Rec) → same_epoch r.round round ≡ true → P r → P (observes limits m roster round r)
    pub led : (leader : List ℕ) (r : Rec) → P r → P (with_leader (Some leader) r)
    pub taken : (keys : List (List ℕ)) (own : Option ℕ) (sender : List ℕ) (s : Indexed) (r : Rec) → Seated a r.round.epoch.0 keys own → H r.commitment sender s → P r → P (intake m limits.blob keys own sender s r).rec × IfSome (intake m limits.blob keys own sender s r).report (λ _. R sender)
    pub tried : (r : Rec) → P r → P (tries r)
    pub completed : (j : Job) (r : Rec) → job_in r.phase ≡ Some j → P r → IfSome (completes m limits.blob j r).rec P
    pub blamed : (j : Job) (r : Rec) → job_in r.phase ≡ Some j → P r → AllByRecursion (λ p. R p.sender) (failing m limits.blob r.commitment j)

  pub record Sound (s : State) : Type 0 where
    pub records : AllByRecursion P s.records
    pub boxes : AllByRecursion (Filled H) s.peers

  -- what a call brings and names, where it was not turned down
  pub record Tells (call : Call) (answer : Answer) : Type 0 where
    pub brings : Counts answer → (c k : List ℕ) (x : Indexed) → Brings c k x call → H c k x
    pub names : Counts answer → (c : List ℕ) (e : ℕ) → Names c e call → A c e

  pub record Leaves (t : Step) : Type 0 where
    pub sound : Sound t.state
    pub reports : Reports R t.answer

  module _ (keeps : Keeps) (roster : Roster) (agrees : Agrees a roster) where
    told_key : (k : List ℕ) (o : Option Reason) → IfSome o (λ _. R k) → AllByRecursion (λ (r : Report). R r.key) (reported k o)
    told_key k None h = tt
    told_key k (Some reason) h = (h, tt)

    -- shards through intake
    module _ (keys : List (List ℕ)) (e : ℕ) (seat : Seated a e keys (roster.own e)) (c : List ℕ) where
      record Going (i : Ingested) : Type 0 where
        commitment : i.rec.commitment ≡ c
        epoch : i.rec.round.epoch.0 ≡ e
        holds : P i.rec
        reports : AllByRecursion (λ (r : Report). R r.key) i.reports

      one : (i : Ingested) (p : Sent) → Going i → H c p.sender p.shard → Going (taken limits m roster keys e i p)
      one i p going h =
          let same = intake_entry m limits.blob keys (roster.own e) p.sender p.shard i.rec in
          let next =
          keeps.taken keys (roster.own e) p.sender p.shard i.rec
          (subst (λ n. Seated a n keys (roster.own e)) (sym going.epoch) seat)
          (subst (λ d. H d p.sender p.shard) (sym going.commitment) h) going.holds in
          record {
            commitment = grind arith;
            epoch = grind arith;
            holds = next.0;
            reports = grind (arith, all_append, told_key);
          }

      many : (i : Ingested) (ps : List Sent) → Going i → AllByRecursion (λ p. H c p.sender p.shard) ps → Going (all_taken limits m roster keys e i ps)
      many i [] going all = going
      many i (p ∷ ps) going all = many (taken limits m roster keys e i p) ps (one i p going all.0) all.1

      ahead : (i : Ingested) → Going i → P (advanced i)
      ahead i going = grind arith

    module _ (s : State) (sound : Sound s) where
      -- box intake, where the store takes any record of which P holds
      drawing : (store : Rec → List Rec) (r : Rec) → ((x : Rec) → P x → AllByRecursion P (store x)) → P r → Leaves (box_intake limits m roster store r s)
      drawing store r stores holds =
          box_ways limits m roster s Leaves store r
          (λ _. record { sound = record { records = stores r holds; boxes = sound.boxes }; reports = tt })
          (λ keys known.
          let e = r.round.epoch.0 in
          let seat = seated a roster e keys agrees known in
          let ps = all_drawn (wants limits m roster keys r) s.peers in
          let going = many keys e seat r.commitment (began r) ps (record { commitment = refl; epoch = refl; holds = holds; reports = tt }) (drawn_brought H r.commitment (is_some r.leader) keys s.peers sound.boxes) in
          record {
            sound = record {
              records = grind (arith, ahead);
              boxes = grind (arith, left-filled);
            };
            reports = going.reports;
          })

      put_back : (x : Rec) → P x → AllByRecursion P (replaced x s.records)
      put_back x h = grind (arith, all_changed)

      put_in : (x : Rec) → P x → AllByRecursion P (entered x s.records)
      put_in x h = all_put order filed_under P x s.records h sound.records

      held : (c : List ℕ) (r : Rec) → record_of c s ≡ Some r → P r
      held c r at = grind (arith, all_look)

      announcing : (c : List ℕ) (round : Round) → A c round.epoch.0 → AnnouncedWays limits m roster s Leaves c round
      announcing c round named = record {
        still = λ _ _. record { sound = sound; reports = tt };
        stood = λ o r _ at same. record { sound = record { records = put_back _ (keeps.observed roster round r same (held c r at)); boxes = sound.boxes }; reports = tt };
        led = λ leader r at same _. drawing _ _ put_back (keeps.led leader _ (keeps.observed roster round r same (held c r at)));
        again = λ r w at same _. drawing _ _ put_back (keeps.observed roster round r same (held c r at));
        new = λ leader _ _ _. drawing _ _ put_in (keeps.new c round leader named);
      }

      trimming : (t : Step) → Leaves t → Leaves (within_window limits m roster t)
      trimming t l = record {
        sound = record { records = all_trimmed round_of filed_under P limits.window t.state.records l.sound.records; boxes = l.sound.boxes };
        reports = l.reports;
      }

      taking : (c peer : List ℕ) (x : Indexed) → H c peer x → Leaves (shard_of limits m roster c peer x s)
      taking c peer x h =
          shard_ways limits m roster s Leaves c peer x
          (record {
            still = λ _. record { sound = sound; reports = tt };
            boxed = λ _. record { sound = record { records = sound.records; boxes = boxed-filled H limits.boxes peer (record { commitment = c; shard = x }) s.peers h sound.boxes }; reports = tt };
            takes = λ r keys at known _.
                let e = r.round.epoch.0 in
                let seat = seated a roster e keys agrees known in
                let here = subst (λ d. H d peer x) (sym (found_key filed_under c s.records r at)) h in
                let p : Sent = record { sender = peer; shard = x } in
                let going = one keys e seat r.commitment (began r) p (record { commitment = refl; epoch = refl; holds = held c r at; reports = tt }) here in
                record {
                  sound = record { records = put_back _ (ahead keys e seat r.commitment (taken limits m roster keys e (began r) p) going); boxes = sound.boxes };
                  reports = going.reports;
                };
          })

      outliving : (c : List ℕ) (o : Option Rec) → IfSome o P → AllByRecursion P (outlives limits m roster o c s.records)
      outliving c None h = grind (arith, all_without)
      outliving c (Some x) h = put_back x h

      completing : (c : List ℕ) → Leaves (completion_of limits m roster c s)
      completing c =
          completion_ways limits m roster s Leaves c (record { sound = sound; reports = tt })
          (λ r j at out.
          let ended = completes m limits.blob j r in
          let bad : AllByRecursion (λ p. R p.sender) (failing m limits.blob c j) = grind (arith, found_key, held) in
          record {
            sound = record { records = outliving c ended.rec (keeps.completed j r out (held c r at)); boxes = sound.boxes };
            reports = grind (arith, all_map);
          })

      looking : (o : Option Phase) → Leaves (block_given limits m roster s o)
      looking o = grind arith

      answers : (c : List ℕ) (round : Round) → AnnouncedWays limits m roster s (λ t. Counts t.answer) c round
      answers c round = grind arith

      done-leaves : (call : Call) → Tells call (done limits m roster s call).answer → Leaves (done limits m roster s call)
      done-leaves (discovery c leader round rooms) tells =
          let counts = discovery_ways limits m roster s (λ t. Counts t.answer) c round (answers c round) leader in
          trimming _ (discovery_ways limits m roster s Leaves c round (announcing c round (tells.names counts c round.epoch.0 (refl, refl))) leader)
      done-leaves (notarization c round rooms) tells =
          let counts = notarization_ways limits m roster s (λ t. Counts t.answer) c round (answers c round) in
          trimming _ (notarization_ways limits m roster s Leaves c round (announcing c round (tells.names counts c round.epoch.0 (refl, refl))))
      done-leaves (shard c peer x rooms) tells =
          let counts = shard_ways limits m roster s (λ t. Counts t.answer) c peer x (record { still = λ _. tt; boxed = λ _. tt; takes = λ _ _ _ _ _. tt }) in
          taking c peer x (tells.brings counts c peer x (refl, refl, refl))
      done-leaves (completion c rooms) tells = completing c
      done-leaves (peer_change ks) tells = record { sound = record { records = sound.records; boxes = renewed-filled H ks s.peers sound.boxes }; reports = tt }
      done-leaves (block_look_up c room) tells = looking (phase_of (record_of c s))
      done-leaves (verified_look_up c) tells = record { sound = sound; reports = tt }

      pub step-leaves : (call : Call) → Tells call (step limits m roster call s).answer → Leaves (step limits m roster call s)
      unfolding step
      step-leaves call =
          by_option (λ o. Tells call (unless_refused limits m roster o s call).answer → Leaves (unless_refused limits m roster o s call)) (turned_down limits s call)
          (λ _ tells. done-leaves call tells) (λ refusal _ _. record { sound = sound; reports = tt })

  pub record Reached (h : List Event) (s : State) : Type 0 where
    pub sound : Sound s
    pub reports : AllByRecursion (λ (e : Event). Reports R e.answer) h

  pub reached : Keeps → (h : List Event) (s : State) → Leads limits m a h s → AllByRecursion (λ (e : Event). Tells e.call e.answer) h → Reached h s
  reached keeps [] s l all = record { sound = subst Sound (sym l) (record { records = tt; boxes = tt }); reports = tt }
  reached keeps (e ∷ h) s l all =
      let before = l.0 in
      let old = reached keeps h before l.1 all.1 in
      let now =
      subst (λ (t : Step). Tells e.call t.answer → Leaves t) l.3
      (step-leaves keeps e.roster l.2 before old.sound e.call) all.0 in
      record { sound = now.sound; reports = (now.reports, old.reports) }

-- what a history's calls brought and named is what is handed in and announced in it
module _ (limits : Limits) (m : Meaning) (a : Assignment) (P : Rec → Type 0) (R : List ℕ → Type 0) where
  pub all_tell : (H : List ℕ → List ℕ → Indexed → Type 0) (A : List ℕ → ℕ → Type 0) (h : List Event) → ((c k : List ℕ) (x : Indexed) → HandedIn h c k x → H c k x) → ((c : List ℕ) (e : ℕ) → Announced h c e → A c e) → AllByRecursion (λ (e : Event). Tells limits m a H A P R e.call e.answer) h
  all_tell H A [] f g = tt
  all_tell H A (e ∷ h) f g = grind (arith, all_tell H A h (λ c k x z. f c k x (inr z)) (λ c n z. g c n (inr z)))

  pub kept : (h : List Event) (s : State) → Keeps limits m a (HandedIn h) (Announced h) P R → Leads limits m a h s → Reached limits m a (HandedIn h) (Announced h) P R h s
  kept h s keeps leads =
      reached limits m a (HandedIn h) (Announced h) P R keeps h s leads (all_tell (HandedIn h) (Announced h) h (λ _ _ _ z. z) (λ _ _ z. z))
