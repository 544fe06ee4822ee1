-- Every history that leads to a state: what is true of the record of a commitment and of the events since its admission.
use Rattle.std.proofs.Common.{◌≡◌, ℕ, Bool, true, false, cond, ◌&&◌, List, [], ◌∷◌, is_some, Some, None, Option, sym, refl, subst, inr, arith}
use Rattle.std.proofs.lemmas.Bool.{and_parts}
use Rattle.std.specs.Option.{option_map}
use Rattle.std.specs.List.{AllByRecursion}
use Rattle.register.specs.Order.{order}
use Rattle.register.specs.declared.counters.Round.{Round}
use Rattle.scheme.specs.Pieces.{Indexed}
use Rattle.table.specs.Laws.{Ascends}
use Rattle.model.specs.Calls.{Answer, Call, discovery, notarization, shard, completion, peer_change, block_look_up, verified_look_up, is_commitment, is_key, phase_of, turned_down, unless}
use Rattle.model.specs.Histories.{Agrees, Assignment, Brings, Counts, Event, HandedIn, Leads, since}
use Rattle.model.specs.Meaning.{Meaning, Roster}
use Rattle.model.specs.State.{Limits, Phase, Rec, State, filed_under, record_of}
use Rattle.model.specs.Steps.{Step, block_given, done, completion_of, discovery_of, notarization_of, shard_of, step, within_window}
use Rattle.model.specs.declared.answer.Refusal.{Refusal}
use Rattle.runs.proofs.Boxes.{renewed-filled}
use Rattle.runs.proofs.Entries.{by_option}
use Rattle.runs.proofs.Rolls.{records_ascend, roll_record}
use Rattle.runs.proofs.Ways.{AnnouncedWays, discovery_ways, notarization_ways, shard_ways}
use Rattle.runs.specs.Rolls.{entry_of}
use Rattle.enough.proofs.Announces.{announced_here, announced_there, trimmed_fine}
use Rattle.enough.proofs.Arrives.{shard_here, shard_there}
use Rattle.enough.proofs.Completes.{completion_here, completion_there}
use Rattle.enough.proofs.Live.{Live}
use Rattle.enough.proofs.Moves.{Fine, For, Moved, OwnBoxes, Silent, by_commitment, elsewhere}

-- a test that was passed
passed : (b : Bool) (r : Refusal) (o : Option Refusal) → unless b r o ≡ None → b ≡ true
passed true r o h = refl
passed false r o h = cc

module _ (limits : Limits) (m : Meaning) (a : Assignment) (c : List ℕ) (ep : ℕ) (Hand : List ℕ → Indexed → Type 0) where
  module _ (roster : Roster) (s : State) (es : List Event) (agrees : Agrees a roster) (boxes : OwnBoxes c Hand s.peers) (up : Ascends order filed_under s.records) where
    abbrev FineOf : Call → Step → Type 0
    FineOf call = Fine limits m a c ep Hand roster call s es

    counted : (d peer : List ℕ) (x : Indexed) → Counts (shard_of limits m roster d peer x s).answer
    counted d peer x = shard_ways limits m roster s (λ t. Counts t.answer) d peer x (record { still = λ _. tt; boxed = λ _. tt; takes = λ _ _ _ _ _. tt })

    looked : (d : List ℕ) (room : ℕ) (o : Option Phase) → FineOf (block_look_up d room) (block_given limits m roster s o)
    looked d room o = grind arith

    -- discovery and notarization
    announcing : (call : List ℕ → Call) (t : List ℕ → Step) (round : Round) → ((d : List ℕ) (answer : Answer) → Silent limits m a c ep Hand roster (call d) s es answer) →
        ((d : List ℕ) → AnnouncedWays limits m roster s (FineOf (call d)) d round → FineOf (call d) (t d)) → (d : List ℕ) → is_commitment d ≡ true → FineOf (call d) (within_window limits m roster (t d))
    announcing call t round quiet ways d proper =
        trimmed_fine limits m a c ep Hand roster (call d) s es agrees boxes up (quiet d) (t d)
        (by_commitment (λ d. is_commitment d ≡ true → FineOf (call d) (t d)) d c
        (λ proper. ways c (announced_here limits m a c ep Hand roster (call c) s es agrees boxes up (quiet c) round proper))
        (λ other _. ways d (announced_there limits m a c ep Hand roster (call d) s es agrees boxes up (quiet d) round d other)) proper)

    done_fine : (call : Call) → turned_down limits s call ≡ None → (Counts (done limits m roster s call).answer → (k : List ℕ) (x : Indexed) → Brings c k x call → Hand k x) → FineOf call (done limits m roster s call)
    done_fine (discovery d leader round rooms) none handed =
        announcing (λ d. discovery d leader round rooms) (λ d. discovery_of limits m roster d leader round s) round (λ d answer. grind arith)
        (λ d ways. discovery_ways limits m roster s (FineOf (discovery d leader round rooms)) d round ways leader) d (and_parts (is_commitment d) (is_key leader) (passed (is_commitment d && is_key leader) _ _ none)).0
    done_fine (notarization d round rooms) none handed =
        announcing (λ d. notarization d round rooms) (λ d. notarization_of limits m roster d round s) round (λ d answer. grind arith)
        (λ d ways. notarization_ways limits m roster s (FineOf (notarization d round rooms)) d round ways) d (passed (is_commitment d) _ _ none)
    done_fine (shard d peer x rooms) none handed =
        by_commitment (λ d. (Counts (shard_of limits m roster d peer x s).answer → (k : List ℕ) (y : Indexed) → Brings c k y (shard d peer x rooms) → Hand k y) → FineOf (shard d peer x rooms) (shard_of limits m roster d peer x s)) d c
        (λ handed. shard_here limits m a c ep Hand roster s es agrees boxes up peer x rooms (handed (counted c peer x) peer x (refl, refl, refl)))
        (λ other _. shard_there limits m a c ep Hand roster s es agrees boxes up peer x rooms d other) handed
    done_fine (completion d rooms) none handed =
        by_commitment (λ d. FineOf (completion d rooms) (completion_of limits m roster d s)) d c
        (completion_here limits m a c ep Hand roster s es boxes up rooms) (completion_there limits m a c ep Hand roster s es boxes up rooms d)
    done_fine (peer_change ks) none handed =
        elsewhere limits m a c ep Hand roster (peer_change ks) s es (done limits m roster s (peer_change ks)) (grind arith) (renewed-filled (For c Hand) ks s.peers boxes) up refl
    done_fine (block_look_up d room) none handed = looked d room (phase_of (record_of d s))
    done_fine (verified_look_up d) none handed = grind arith

    step_fine : (call : Call) → (Counts (step limits m roster call s).answer → (k : List ℕ) (x : Indexed) → Brings c k x call → Hand k x) → FineOf call (step limits m roster call s)
    unfolding step
    step_fine call = grind (arith, done_fine, elsewhere)

  -- what holds of a history and the state that it leads to
  pub record Standing (h : List Event) (s : State) : Type 0 where
    pub boxes : OwnBoxes c Hand s.peers
    pub live : (r : Rec) → record_of c s ≡ Some r → r.round.epoch.0 ≡ ep → AllByRecursion (λ x. is_some (x.roster.keys ep) ≡ true) (since limits.window c h) → Live limits m a c ep Hand (since limits.window c h) r

  pub standing : (h : List Event) (s : State) → Leads limits m a h s → ((k : List ℕ) (x : Indexed) → HandedIn h c k x → Hand k x) → Standing h s
  standing [] s l handed =
      subst (Standing []) (sym l) (record { boxes = tt; live = λ r at. cc })
  standing (e ∷ h) s l handed =
      let before = l.0 in
      let old = standing h before l.1 (λ k x p. handed k x (inr p)) in
      let fine = step_fine e.roster before (since limits.window c h) l.2 old.boxes (records_ascend limits m a h before l.1) e.call
      (λ counts k x brings. grind arith) in
      let now = subst (Fine limits m a c ep Hand e.roster e.call before (since limits.window c h)) l.3 fine in
      record {
        boxes = now.boxes;
        live = λ r at in_epoch_now.
            subst (λ o. AllByRecursion (λ x. is_some (x.roster.keys ep) ≡ true) (cond (is_some o) (e ∷ since limits.window c h) []) → Live limits m a c ep Hand (cond (is_some o) (e ∷ since limits.window c h) []) r) (sym (roll_record limits m a h before l.1 c))
            (by_option (λ o. Moved limits m a c ep Hand e.roster e.call before (since limits.window c h) o e.answer r →
            AllByRecursion (λ x. is_some (x.roster.keys ep) ≡ true) (cond (is_some (option_map entry_of o)) (e ∷ since limits.window c h) []) → Live limits m a c ep Hand (cond (is_some (option_map entry_of o)) (e ∷ since limits.window c h) []) r) (record_of c before)
            (λ _ live _. live)
            (λ q was moved known. grind arith)
            (now.moved r at in_epoch_now));
      }
