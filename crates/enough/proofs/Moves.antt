-- A call that leaves the record of a commitment alone, replaces it, or lets one in; and box intake for it.
use Rattle.std.proofs.Common.{◌≡◌, ℕ, true, List, [], ◌∷◌, is_some, Some, None, Option, sym, ap, ◌∙◌, subst, ⊎_elim, arith}
use Rattle.std.proofs.lemmas.Slice.Eq.{bytes_eq-Decides}
use Rattle.std.proofs.lemmas.Bool.{cases_Bool, iff_false}
use Rattle.std.specs.List.{AllByRecursion}
use Rattle.std.specs.Str.{bytes_eq}
use Rattle.register.specs.Order.{order}
use Rattle.rosters.specs.Sound.{index}
use Rattle.scheme.specs.Pieces.{Indexed}
use Rattle.table.specs.Laws.{Ascends, look}
use Rattle.table.proofs.Carried.{all_weaker}
use Rattle.model.specs.Boxes.{all_drawn}
use Rattle.model.specs.Calls.{Answer, Call}
use Rattle.model.specs.Histories.{Agrees, Assignment, Brings, Counts, Event}
use Rattle.model.specs.Meaning.{Meaning, Roster, minimum_of}
use Rattle.model.specs.Promises.{Completing, EndedAbove}
use Rattle.model.specs.State.{Limits, Peer, Rec, State, filed_under, record_of}
use Rattle.model.specs.Steps.{Step, advanced, all_taken, began, entered, replaced, wants}
use Rattle.runs.proofs.Boxes.{Filled, drawn_brought}
use Rattle.runs.proofs.Entries.{differ, entry_laws, replaced_ascends, replaced-found, replaced_others}
use Rattle.enough.proofs.Draws.{Grown, SoundHere, advanced_grown, good_here, known, row_all, row-began}
use Rattle.enough.proofs.Held.{GivenTo, Settled}
use Rattle.enough.proofs.Live.{Live}

-- a call is for the commitment c or for another
pub by_commitment : (P : List ℕ → Type 0) (d c : List ℕ) → P c → ((d ≡ c → ⊥) → P d) → P d
by_commitment P d c here there =
    ⊎_elim (λ t. subst P (sym ((bytes_eq-Decides d c).0 t)) here) (λ f. there (iff_false (bytes_eq-Decides d c) f)) (cases_Bool (bytes_eq d c))

-- an entry of a box for the commitment was handed in by the box's peer
abbrev pub For : List ℕ → (List ℕ → Indexed → Type 0) → List ℕ → List ℕ → Indexed → Type 0
For c Hand d k x = d ≡ c → Hand k x

abbrev pub OwnBoxes : List ℕ → (List ℕ → Indexed → Type 0) → List Peer → Type 0
OwnBoxes c Hand ps = AllByRecursion (Filled (For c Hand)) ps

module _ (limits : Limits) (m : Meaning) (a : Assignment) (c : List ℕ) (ep : ℕ) (Hand : List ℕ → Indexed → Type 0) (roster : Roster) (call : Call) (s : State) (es : List Event) where
  abbrev pub event : Answer → Event
  event answer = record { roster = roster; call = call; answer = answer }

  -- what becomes of the record that was there, or of one that is let in
  abbrev pub Moved : Option Rec → Answer → Rec → Type 0
  Moved None answer r = Live limits m a c ep Hand [] r
  Moved (Some old) answer r =
      (old.round.epoch.0 ≡ ep) × (is_some (roster.keys ep) ≡ true → Live limits m a c ep Hand es old → Live limits m a c ep Hand (event answer ∷ es) r)

  pub record Fine (t : Step) : Type 0 where
    pub boxes : OwnBoxes c Hand t.state.peers
    pub ascend : Ascends order filed_under t.state.records
    pub moved : (r : Rec) → record_of c t.state ≡ Some r → r.round.epoch.0 ≡ ep → Moved (record_of c s) t.answer r

  -- the call completes nothing of the commitment and brings no shard for it
  pub record Silent (answer : Answer) : Type 0 where
    pub ends : Completing c call → (n : ℕ) → EndedAbove n answer
    pub brings : (k : List ℕ) (x : Indexed) → Counts answer → Brings c k x call → ⊥

  -- the record as it was
  pub stayed : (answer : Answer) (old : Rec) → Live limits m a c ep Hand es old →
      (Completing c call → (n : ℕ) → EndedAbove n answer) →
      ((k : List ℕ) (x : Indexed) → Counts answer → Brings c k x call → index k (a.keys ep) ≡ Some x.index → good_here limits m a c ep Hand x ≡ true → GivenTo old x.index) →
      Live limits m a c ep Hand (event answer ∷ es) old
  stayed answer old live ends gets = grind arith

  pub elsewhere : (t : Step) → Silent t.answer → OwnBoxes c Hand t.state.peers → Ascends order filed_under t.state.records → record_of c t.state ≡ record_of c s → Fine t
  elsewhere t silent boxes up same = record {
    boxes = boxes;
    ascend = up;
    moved = λ r at in_epoch_now.
        subst (λ o. Moved o t.answer r) (sym at ∙ same)
        (in_epoch_now, λ _ live. stayed t.answer r live silent.ends (λ k x counts brings. absurd (silent.brings k x counts brings)));
  }

  module _ (up : Ascends order filed_under s.records) where
    -- another record in the place of the one that is there
    pub placed : (old x : Rec) (ps : List Peer) (answer : Answer) → record_of c s ≡ Some old → x.commitment ≡ c → x.round.epoch.0 ≡ old.round.epoch.0 → OwnBoxes c Hand ps →
        (old.round.epoch.0 ≡ ep → is_some (roster.keys ep) ≡ true → Live limits m a c ep Hand es old → Live limits m a c ep Hand (event answer ∷ es) x) →
        Fine (record { state = record { records = replaced x s.records; peers = ps }; answer = answer })
    placed old x ps answer at named same boxes goes =
        let there : look order filed_under x.commitment s.records ≡ Some old = grind arith in
        let found : look order filed_under c (replaced x s.records) ≡ Some x = subst (λ d. look order filed_under d (replaced x s.records) ≡ Some x) named (replaced-found filed_under x s.records old there) in
        record {
          boxes = boxes;
          ascend = replaced_ascends filed_under x s.records up;
          moved = λ r now in_epoch_now. grind arith;
        }

    -- a record that comes in
    pub let_in : (x : Rec) (ps : List Peer) (answer : Answer) → record_of c s ≡ None → x.commitment ≡ c → OwnBoxes c Hand ps →
        (x.round.epoch.0 ≡ ep → Live limits m a c ep Hand [] x) →
        Fine (record { state = record { records = entered x s.records; peers = ps }; answer = answer })
    let_in x ps answer at named boxes goes =
        let there : look order filed_under x.commitment s.records ≡ None = grind arith in
        let found : look order filed_under c (entered x s.records) ≡ Some x = subst (λ d. look order filed_under d (entered x s.records) ≡ Some x) named ((entry_laws filed_under).put_found x s.records there) in
        record {
          boxes = boxes;
          ascend = (entry_laws filed_under).put_ascends x s.records up;
          moved = λ r now in_epoch_now. grind arith;
        }

    -- a record of another commitment, replaced or let in
    pub placed_other : (x : Rec) (ps : List Peer) (answer : Answer) → (x.commitment ≡ c → ⊥) → OwnBoxes c Hand ps → Silent answer → Fine (record { state = record { records = replaced x s.records; peers = ps }; answer = answer })
    placed_other x ps answer other boxes silent =
        elsewhere (record { state = record { records = replaced x s.records; peers = ps }; answer = answer }) silent boxes (replaced_ascends filed_under x s.records up) (replaced_others filed_under x c s.records other)

    pub let_in_other : (x : Rec) (ps : List Peer) (answer : Answer) → (x.commitment ≡ c → ⊥) → OwnBoxes c Hand ps → Silent answer → Fine (record { state = record { records = entered x s.records; peers = ps }; answer = answer })
    let_in_other x ps answer other boxes silent =
        elsewhere (record { state = record { records = entered x s.records; peers = ps }; answer = answer }) silent boxes ((entry_laws filed_under).put_ascends x s.records up)
        ((entry_laws filed_under).put_others x c s.records (differ x.commitment c other))

  -- box intake for a record of the commitment
  pub box_grown : Agrees a roster → OwnBoxes c Hand s.peers → (lost : List ℕ) (x : Rec) (ks : List (List ℕ)) → x.commitment ≡ c → x.round.epoch.0 ≡ ep → roster.keys x.round.epoch.0 ≡ Some ks →
      SoundHere limits m a c ep Hand lost x → Settled (minimum_of c) x.phase →
      Grown limits m a c ep Hand lost x (advanced (all_taken limits m roster ks x.round.epoch.0 (began x) (all_drawn (wants limits m roster ks x) s.peers)))
  box_grown agrees boxes lost x ks named in_epoch_now at sound settled =
      let knows = known a ep roster ks agrees (ap roster.keys (sym in_epoch_now) ∙ at) in
      let drawn = all_weaker (λ p. For c Hand x.commitment p.sender p.shard) (λ p. Hand p.sender p.shard) (λ p handed. handed named) (all_drawn (wants limits m roster ks x) s.peers)
      (drawn_brought (For c Hand) x.commitment (is_some x.leader) ks s.peers boxes) in
      let row = row_all limits m a c ep Hand roster ks knows lost x (began x) (all_drawn (wants limits m roster ks x) s.peers) drawn (row-began limits m a c ep Hand lost x named sound) in
      subst (λ n. Grown limits m a c ep Hand lost x (advanced (all_taken limits m roster ks n (began x) (all_drawn (wants limits m roster ks x) s.peers)))) (sym in_epoch_now)
      (advanced_grown limits m a c ep Hand lost x (all_taken limits m roster ks ep (began x) (all_drawn (wants limits m roster ks x) s.peers)) settled row)
