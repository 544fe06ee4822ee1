-- A shard call carries the record of a commitment on; a member's good shard at its own index has then contributed.
use Rattle.std.proofs.Common.{◌≡◌, ℕ, Bool, true, false, cond, List, [], ◌∷◌, is_some, Some, Option, sym, ap, ◌∙◌, subst, arith}
use Rattle.std.proofs.lemmas.Bool.{cond_both}
use Rattle.register.specs.Order.{order}
use Rattle.rosters.specs.Sound.{index}
use Rattle.scheme.specs.Pieces.{Indexed}
use Rattle.table.specs.Laws.{Ascends}
use Rattle.model.specs.Calls.{Answer, answered, Call, shard, Rooms}
use Rattle.model.specs.Histories.{Agrees, Assignment, Event}
use Rattle.model.specs.Jobs.{tries}
use Rattle.model.specs.Meaning.{Meaning, Roster}
use Rattle.model.specs.State.{Limits, Phase, Rec, State, filed_under, record_of}
use Rattle.model.specs.Steps.{Ingested, Step, advanced, began, boxes_shard, by_phase, in_epoch, known_shard, shard_by, shard_of, stays, taken, takes_shard, too_early}
use Rattle.model.specs.declared.answer.Outcome.TheVariants.{Ignored, Gain, NoGain}
use Rattle.runs.proofs.Boxes.{boxed-filled}
use Rattle.runs.proofs.Entries.{by_option, found_key}
use Rattle.runs.proofs.Rolls.{advanced_entry, intake_entry}
use Rattle.runs.proofs.Ways.{shard_ways}
use Rattle.enough.proofs.Draws.{Grown, advanced_grown, good_here, known, row_all, row-began, took}
use Rattle.enough.proofs.Held.{Given, GivenTo}
use Rattle.enough.proofs.Live.{next}
use Rattle.enough.proofs.Moves.{Fine, OwnBoxes, Silent, elsewhere, event, placed, placed_other}

advanced-gives : (i : Ingested) (n : ℕ) → GivenTo i.rec n → GivenTo (advanced i) n
unfolding tries
advanced-gives i n h = grind arith

-- behind the block everything is given
ignored_gives : (ph : Phase) (verified : Bool) (flags : List Bool) (n : ℕ) → by_phase ph false verified ≡ true → Given flags n ph
ignored_gives ph verified flags n h = grind arith

module _ (limits : Limits) (m : Meaning) (a : Assignment) (c : List ℕ) (ep : ℕ) (Hand : List ℕ → Indexed → Type 0) (roster : Roster) (s : State) (es : List Event)
    (agrees : Agrees a roster) (boxes : OwnBoxes c Hand s.peers) (up : Ascends order filed_under s.records) (peer : List ℕ) (x : Indexed) (rooms : Rooms) where
  -- at its own index a member's shard is not too early
  timely : (l : Option (List ℕ)) (o : Option ℕ) → o ≡ Some x.index → too_early limits m roster l o x.index ≡ false
  timely l o at = grind arith

  module _ (handed : Hand peer x) where
    abbrev bring : Call
    bring = shard c peer x rooms

    abbrev FineHere : Step → Type 0
    FineHere = Fine limits m a c ep Hand roster bring s es

    -- the record stays, and gives
    unchanged : (t : Step) → OwnBoxes c Hand t.state.peers → Ascends order filed_under t.state.records → record_of c t.state ≡ record_of c s →
        ((r : Rec) → record_of c s ≡ Some r → r.round.epoch.0 ≡ ep → is_some (roster.keys ep) ≡ true → index peer (a.keys ep) ≡ Some x.index → GivenTo r x.index) →
        FineHere t
    unchanged t own rise same gives = grind arith

    boxing : ((r : Rec) → record_of c s ≡ Some r → r.round.epoch.0 ≡ ep → is_some (roster.keys ep) ≡ true → index peer (a.keys ep) ≡ Some x.index → GivenTo r x.index) → FineHere (boxes_shard limits m roster c peer x s)
    unfolding boxes_shard
    boxing gives = grind (arith, unchanged, boxed-filled)

    taking : (r : Rec) (ks : List (List ℕ)) → record_of c s ≡ Some r → roster.keys r.round.epoch.0 ≡ Some ks → FineHere (takes_shard limits m roster ks peer x r s)
    taking r ks at knows =
        let named = found_key filed_under c s.records r at in
        let i = taken limits m roster ks r.round.epoch.0 (began r) (record { sender = peer; shard = x }) in
        let entry = advanced_entry i ∙ intake_entry m limits.blob ks (roster.own r.round.epoch.0) peer x r in
        let answer = answered (cond i.gained Gain NoGain) i.reports i.action in
        placed limits m a c ep Hand roster bring s es up r (advanced i) s.peers answer at (ap (λ n. n.commitment) entry ∙ named) (ap (λ n. n.round.epoch.0) entry) boxes
        (λ in_epoch_now _ live.
        let k = known a ep roster ks agrees (ap roster.keys (sym in_epoch_now) ∙ knows) in
        let j = taken limits m roster ks ep (began r) (record { sender = peer; shard = x }) in
        let row = row_all limits m a c ep Hand roster ks k live.lost r (began r) (record { sender = peer; shard = x } ∷ []) (handed, tt) (row-began limits m a c ep Hand live.lost r named live.sound) in
        let one = took limits m a c ep Hand roster ks k live.lost peer x r handed named live.sound in
        let grown : Grown limits m a c ep Hand live.lost r (advanced j) = advanced_grown limits m a c ep Hand live.lost r j live.settled row in
        let gets : index peer (a.keys ep) ≡ Some x.index → good_here limits m a c ep Hand x ≡ true → GivenTo (advanced j) x.index = λ place good. advanced-gives j x.index (one.gets place good) in
        let both = subst (λ n. Grown limits m a c ep Hand live.lost r (advanced (taken limits m roster ks n (began r) (record { sender = peer; shard = x }))) × (index peer (a.keys ep) ≡ Some x.index → good_here limits m a c ep Hand x ≡ true → GivenTo (advanced (taken limits m roster ks n (began r) (record { sender = peer; shard = x }))) x.index)) (sym in_epoch_now) (grown, gets) in
        next limits m a c ep Hand es (event limits m a c ep Hand roster bring s es answer) r (advanced i) live live.lost both.0 live.losses (omega arith) (λ is. absurd is)
        (λ k' y counts brings place good. grind arith))

    pub shard_here : FineHere (shard_of limits m roster c peer x s)
    unfolding shard_of
    shard_here =
        by_option (λ o. FineHere (shard_by limits m roster c peer x s o)) (record_of c s)
        (λ none. boxing (λ r at. cc))
        (λ r at.
        cond_both (by_phase r.phase false r.verified) (stays limits m roster Ignored s) (in_epoch limits m roster (roster.keys r.round.epoch.0) (known_shard limits m roster peer x r s) s) FineHere
        (λ whole. grind (arith, unchanged, ignored_gives))
        (λ _. grind (arith, unchanged, found_key, boxing, known, timely, taking)))

  -- a shard for another commitment
  pub shard_there : (d : List ℕ) → (d ≡ c → ⊥) → Fine limits m a c ep Hand roster (shard d peer x rooms) s es (shard_of limits m roster d peer x s)
  shard_there d other =
      shard_ways limits m roster s (Fine limits m a c ep Hand roster (shard d peer x rooms) s es) d peer x
      (record {
        still = λ o. grind (arith, elsewhere, quiet);
        boxed = λ _. grind (arith, elsewhere, quiet, boxed-filled);
        takes = λ r ks at _ _.
            let i = taken limits m roster ks r.round.epoch.0 (began r) (record { sender = peer; shard = x }) in
            let entry = advanced_entry i ∙ intake_entry m limits.blob ks (roster.own r.round.epoch.0) peer x r in
            placed_other limits m a c ep Hand roster (shard d peer x rooms) s es up (advanced i) s.peers (answered (cond i.gained Gain NoGain) i.reports i.action)
            (λ is. grind (arith, found_key)) boxes (quiet _);
      })
    where
      quiet : (answer : Answer) → Silent limits m a c ep Hand roster (shard d peer x rooms) s es answer
      quiet answer = grind arith
