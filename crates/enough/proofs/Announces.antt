-- Discovery and notarization carry the record of a commitment on, or let it in.
use Rattle.std.proofs.Common.{◌≡◌, ℕ, true, List, [], ◌∷◌, length, is_some, Some, None, Option, sym, refl, ap, ◌∙◌, arith}
use Rattle.register.specs.Order.{order}
use Rattle.register.specs.declared.counters.Round.{Round}
use Rattle.rosters.specs.Sound.{ascending}
use Rattle.scheme.specs.Pieces.{Indexed}
use Rattle.table.specs.Laws.{Ascends}
use Rattle.model.specs.Boxes.{all_drawn, all_left}
use Rattle.model.specs.Calls.{Answer, answered, Call, is_commitment}
use Rattle.model.specs.Histories.{Agrees, Assignment, Event}
use Rattle.model.specs.Meaning.{Meaning, Roster, minimum_of}
use Rattle.model.specs.State.{Limits, Peer, Rec, State, filed_under, larger, new_record, record_of, with_leader}
use Rattle.model.specs.Steps.{Step, advanced, all_taken, began, box_intake, entered, observes, replaced, same_epoch, stays, wants, within_window}
use Rattle.model.specs.declared.answer.Outcome.{Outcome}
use Rattle.model.specs.declared.answer.Outcome.TheVariants.{Held}
use Rattle.runs.proofs.Boxes.{left-filled}
use Rattle.runs.proofs.Entries.{found_key, trimmed_ascends, trimmed-look}
use Rattle.runs.proofs.Rolls.{drawn_entry}
use Rattle.runs.proofs.Ways.{AnnouncedWays, box_ways}
use Rattle.runs.specs.Rolls.{entry_of}
use Rattle.enough.proofs.Draws.{Grown, SoundHere, known}
use Rattle.enough.proofs.Held.{Settled}
use Rattle.enough.proofs.Live.{Live, entered_live, new_grown, next}
use Rattle.enough.proofs.Moves.{Fine, For, OwnBoxes, Silent, box_grown, elsewhere, event, let_in, let_in_other, placed, placed_other}

-- the larger of two rounds of one epoch is of that epoch
larger_epoch : (x y : Round) → same_epoch x y ≡ true → (larger x y).epoch.0 ≡ x.epoch.0
larger_epoch x y same = grind arith

some_of : {X : Type 0} (o : Option X) → is_some o ≡ true → (x : X) × (o ≡ Some x)
some_of o h = grind arith

module _ (limits : Limits) (m : Meaning) (a : Assignment) (c : List ℕ) (ep : ℕ) (Hand : List ℕ → Indexed → Type 0) (roster : Roster) (call : Call) (s : State) (es : List Event)
    (agrees : Agrees a roster) (boxes : OwnBoxes c Hand s.peers) (up : Ascends order filed_under s.records) (silent : (answer : Answer) → Silent limits m a c ep Hand roster call s es answer) where
  abbrev pub FineHere : Step → Type 0
  FineHere = Fine limits m a c ep Hand roster call s es

  -- the live record with another round and leader, and what may have come in since
  goes : (r x : Rec) (answer : Answer) → ((live : Live limits m a c ep Hand es r) → Grown limits m a c ep Hand live.lost r x) → Live limits m a c ep Hand es r → Live limits m a c ep Hand (event limits m a c ep Hand roster call s es answer ∷ es) x
  goes r x answer grown live =
      next limits m a c ep Hand es (event limits m a c ep Hand roster call s es answer) r x live live.lost (grown live) live.losses (omega arith)
      (λ is. (silent answer).ends is (length live.lost)) (λ k y counts brings. absurd ((silent answer).brings k y counts brings))

  still : (o : Outcome) → FineHere (stays limits m roster o s)
  still o = elsewhere limits m a c ep Hand roster call s es (stays limits m roster o s) (silent _) boxes up refl

  -- box intake for x: what is shown of all that x may grow into is shown of the call
  drawing : (store : Rec → List Rec) (x : Rec) →
      ((y : Rec) (ps : List Peer) (answer : Answer) → OwnBoxes c Hand ps → entry_of y ≡ entry_of x →
      (x.commitment ≡ c → x.round.epoch.0 ≡ ep → (lost : List ℕ) → SoundHere limits m a c ep Hand lost x → Settled (minimum_of c) x.phase → Grown limits m a c ep Hand lost x y) →
      FineHere (record { state = record { records = store y; peers = ps }; answer = answer })) →
      FineHere (box_intake limits m roster store x s)
  drawing store x shows =
      box_ways limits m roster s FineHere store x
      (λ _. shows x s.peers (answered Held [] None) boxes refl (λ _ _ lost sound settled. record { sound = sound; settled = settled; grows = λ i h. h }))
      (λ ks known.
      let ps = all_drawn (wants limits m roster ks x) s.peers in
      let i = all_taken limits m roster ks x.round.epoch.0 (began x) ps in
      shows (advanced i) (all_left (wants limits m roster ks x) s.peers) (answered Held i.reports i.action) (left-filled (For c Hand) (wants limits m roster ks x) s.peers boxes) (drawn_entry limits m roster ks x ps)
      (λ named in_epoch_now lost sound settled. box_grown limits m a c ep Hand roster call s es agrees boxes lost x ks named in_epoch_now known sound settled))

  module _ (round : Round) where
    -- for the record that is there
    again_here : (l : Option (List ℕ)) (r : Rec) → record_of c s ≡ Some r → same_epoch r.round round ≡ true →
        FineHere (box_intake limits m roster (λ y. replaced y s.records) (with_leader l (observes limits m roster round r)) s)
    again_here l r at same =
        let named = found_key filed_under c s.records r at in
        let epoch = larger_epoch r.round round same in
        drawing (λ y. replaced y s.records) (with_leader l (observes limits m roster round r))
        (λ y ps answer own entry grown.
        placed limits m a c ep Hand roster call s es up r y ps answer at (ap (λ n. n.commitment) entry ∙ named) (ap (λ n. n.round.epoch.0) entry ∙ epoch) own
        (λ old_ep _. goes r y answer (λ live. let g = grown named (epoch ∙ old_ep) live.lost live.sound live.settled in record { sound = g.sound; settled = g.settled; grows = g.grows })))

    pub announced_here : is_commitment c ≡ true → AnnouncedWays limits m roster s FineHere c round
    announced_here proper = record {
      still = λ o _. still o;
      stood = λ o r held at same. placed limits m a c ep Hand roster call s es up r (observes limits m roster round r) s.peers (answered o [] None) at (found_key filed_under c s.records r at) (larger_epoch r.round round same) boxes
          (λ old_ep _ live. grind (arith, goes));
      led = λ leader r at same _. again_here (Some leader) r at same;
      again = λ r w at same _. again_here r.leader r at same;
      new = λ leader none some _.
          let x = new_record c round leader in
          let g = new_grown limits m a c ep Hand round leader proper in
          drawing (λ y. entered y s.records) x
          (λ y ps answer own entry grown.
          let epoch = sym (ap (λ n. n.round.epoch.0) entry) in
          let_in limits m a c ep Hand roster call s es up y ps answer none (ap (λ n. n.commitment) entry) own
          (λ now. entered_live limits m a c ep Hand x y (grown refl (epoch ∙ now) [] g.sound g.settled) proper (rising some (epoch ∙ now))));
    }
      where
        rising : is_some (roster.keys round.epoch.0) ≡ true → round.epoch.0 ≡ ep → ascending (a.keys ep) ≡ true
        rising some in_epoch_now = let k = some_of (roster.keys round.epoch.0) some in (known a ep roster k.0 agrees (ap roster.keys (sym in_epoch_now) ∙ k.1)).up

    pub announced_there : (d : List ℕ) → (d ≡ c → ⊥) → AnnouncedWays limits m roster s FineHere d round
    announced_there d other = record {
      still = λ o _. still o;
      stood = λ o r held at same. placed_other limits m a c ep Hand roster call s es up (observes limits m roster round r) s.peers (answered o [] None) (not_here r at) boxes (silent _);
      led = λ leader r at same _. again_there (with_leader (Some leader) (observes limits m roster round r)) (not_here r at);
      again = λ r w at same _. again_there (observes limits m roster round r) (not_here r at);
      new = λ leader none _ _.
          drawing (λ y. entered y s.records) (new_record d round leader)
          (λ y ps answer own entry _. let_in_other limits m a c ep Hand roster call s es up y ps answer (λ is. other (sym (ap (λ n. n.commitment) entry) ∙ is)) own (silent answer));
    }
      where
        not_here : (r : Rec) → record_of d s ≡ Some r → r.commitment ≡ c → ⊥
        not_here r at is = other (sym (found_key filed_under d s.records r at) ∙ is)

        again_there : (x : Rec) → (x.commitment ≡ c → ⊥) → FineHere (box_intake limits m roster (λ y. replaced y s.records) x s)
        again_there x not =
            drawing (λ y. replaced y s.records) x
            (λ y ps answer own entry _. placed_other limits m a c ep Hand roster call s es up y ps answer (λ is. not (sym (ap (λ n. n.commitment) entry) ∙ is)) own (silent answer))

  -- what is beyond the window leaves
  pub trimmed_fine : (t : Step) → FineHere t → FineHere (within_window limits m roster t)
  trimmed_fine t fine = grind (arith, trimmed_ascends, trimmed-look)
