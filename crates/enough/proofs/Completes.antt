-- A completion carries the record of a commitment on, or takes it out.
use Rattle.std.proofs.Common.{◌≡◌, ℕ, List, IfSome, Some, None, Option, sym, refl, ◌∙◌, arith}
use Rattle.register.specs.Order.{order}
use Rattle.scheme.specs.Pieces.{Indexed}
use Rattle.table.specs.Laws.{Ascends}
use Rattle.model.specs.Calls.{Answer, answered, refused, completion, Rooms}
use Rattle.model.specs.Histories.{Assignment, Event}
use Rattle.model.specs.Jobs.{Ended, completes, failing, numbered, passing, returned_in, tries}
use Rattle.model.specs.Meaning.{Meaning, Roster, minimum_of}
use Rattle.model.specs.State.{Job, Limits, Rec, State, filed_under, record_of, with_phase}
use Rattle.model.specs.Steps.{bad_senders, completion_of, ends}
use Rattle.model.specs.declared.answer.Refusal.TheVariants.{NoJob}
use Rattle.runs.proofs.Entries.{differ, entry_laws, found_key}
use Rattle.runs.proofs.Intakes.{completes_ways}
use Rattle.runs.proofs.Rolls.{tries_entry}
use Rattle.runs.proofs.Ways.{completion_ways}
use Rattle.enough.proofs.Draws.{good_here}
use Rattle.enough.proofs.Ends.{Left, ended_well}
use Rattle.enough.proofs.Live.{Live, next}
use Rattle.enough.proofs.Moves.{Fine, OwnBoxes, Silent, elsewhere, event, placed, placed_other}

module _ (limits : Limits) (m : Meaning) (a : Assignment) (c : List ℕ) (ep : ℕ) (Hand : List ℕ → Indexed → Type 0) (roster : Roster) (s : State) (es : List Event)
    (boxes : OwnBoxes c Hand s.peers) (up : Ascends order filed_under s.records) (rooms : Rooms) where
  -- a record that stays, or none
  ending : (r : Rec) (j : Job) (e : Ended) → record_of c s ≡ Some r →
      (IfSome e.rec (λ x. (x.commitment ≡ c) × (x.round.epoch.0 ≡ r.round.epoch.0))) →
      ((live : Live limits m a c ep Hand es r) → IfSome e.rec (Left (good_here limits m a c ep Hand) (minimum_of c) (a.keys ep) (a.own ep) Hand live.lost r e.outcome)) →
      Fine limits m a c ep Hand roster (completion c rooms) s es (ends limits m roster c j s e)
  ending r j e at = go e.rec
    where
      answer : Answer
      answer = answered e.outcome (bad_senders limits m roster (failing m limits.blob c j)) None

      go : (o : Option Rec) → (IfSome o (λ x. (x.commitment ≡ c) × (x.round.epoch.0 ≡ r.round.epoch.0))) →
          ((live : Live limits m a c ep Hand es r) → IfSome o (Left (good_here limits m a c ep Hand) (minimum_of c) (a.keys ep) (a.own ep) Hand live.lost r e.outcome)) →
          Fine limits m a c ep Hand roster (completion c rooms) s es (ends limits m roster c j s (record { rec = o; outcome = e.outcome }))
      go None same left = record {
        boxes = boxes;
        ascend = (entry_laws filed_under).without_ascends c s.records up;
        moved = λ q here in_epoch_now. let gone = (entry_laws filed_under).without_gone c s.records up in cc;
      }
      go (Some x) same left =
          placed limits m a c ep Hand roster (completion c rooms) s es up r x s.peers answer at same.0 same.1 boxes
          (λ in_epoch_now _ live.
          let l = left live in
          next limits m a c ep Hand es (event limits m a c ep Hand roster (completion c rooms) s es answer) r x live l.more (record { sound = l.sound; settled = l.settled; grows = l.grows }) l.losses l.longer
          (λ _. l.number) (λ k y counts brings. absurd brings))

  pub completion_here : Fine limits m a c ep Hand roster (completion c rooms) s es (completion_of limits m roster c s)
  completion_here =
      completion_ways limits m roster s (Fine limits m a c ep Hand roster (completion c rooms) s es) c
      (elsewhere limits m a c ep Hand roster (completion c rooms) s es (record { state = s; answer = refused NoJob }) (grind arith) boxes up refl)
      (λ r j at out.
      let named = found_key filed_under c s.records r at in
      ending r j (completes m limits.blob j r) at (entries r j named)
      (λ live. grind (arith, ended_well)))
    where
      entries : (r : Rec) (j : Job) → r.commitment ≡ c → IfSome (completes m limits.blob j r).rec (λ x. (x.commitment ≡ c) × (x.round.epoch.0 ≡ r.round.epoch.0))
      entries r j named =
          completes_ways m limits.blob j r (λ e. IfSome e.rec (λ x. (x.commitment ≡ c) × (x.round.epoch.0 ≡ r.round.epoch.0)))
          (record {
            short = λ _. grind (arith, tries_entry);
            whole = λ _ _ _. (named, refl);
            fault = λ _ _ _. tt;
          })

  pub completion_there : (d : List ℕ) → (d ≡ c → ⊥) → Fine limits m a c ep Hand roster (completion d rooms) s es (completion_of limits m roster d s)
  completion_there d other =
      completion_ways limits m roster s (Fine limits m a c ep Hand roster (completion d rooms) s es) d
      (elsewhere limits m a c ep Hand roster (completion d rooms) s es (record { state = s; answer = refused NoJob }) (quiet _) boxes up refl)
      (λ r j at out.
      let named = found_key filed_under d s.records r at in
      completes_ways m limits.blob j r (λ e. Fine limits m a c ep Hand roster (completion d rooms) s es (ends limits m roster d j s e))
      (record {
        short = λ _.
            let x = with_phase (returned_in (passing m limits.blob r.commitment j) r.phase) (numbered r) in
            placed_other limits m a c ep Hand roster (completion d rooms) s es up (tries x) s.peers (answered _ _ None) (λ is. grind (arith, tries_entry)) boxes (quiet _);
        whole = λ _ _ _. placed_other limits m a c ep Hand roster (completion d rooms) s es up _ s.peers (answered _ _ None) (λ is. other (sym named ∙ is)) boxes (quiet _);
        fault = λ _ _ _.
            elsewhere limits m a c ep Hand roster (completion d rooms) s es _ (quiet _) boxes ((entry_laws filed_under).without_ascends d s.records up)
            ((entry_laws filed_under).without_others d c s.records up (differ d c other));
      }))
    where
      quiet : (answer : Answer) → Silent limits m a c ep Hand roster (completion d rooms) s es answer
      quiet answer = grind arith
