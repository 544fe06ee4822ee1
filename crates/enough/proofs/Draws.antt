-- Several intakes one after the other, and a trial of a job behind them, keep the record of a commitment sound.
use Rattle.std.proofs.Common.{◌≡◌, ℕ, ◌<◌, ◌≤◌, Bool, true, false, List, [], ◌∷◌, length, Some, sym, ◌∙◌, subst, arith}
use Rattle.std.proofs.lemmas.Bool.{cond_both, or_parts}
use Rattle.std.specs.List.{AllByRecursion}
use Rattle.rosters.specs.Sound.{ascending, index}
use Rattle.scheme.specs.Pieces.{Indexed}
use Rattle.model.specs.Histories.{Agrees, Assignment}
use Rattle.model.specs.Intake.{from_member, intake}
use Rattle.model.specs.Jobs.{tried_in, tries}
use Rattle.model.specs.Meaning.{Meaning, Roster, good_for, minimum_of}
use Rattle.model.specs.State.{Limits, Rec, Sent, with_phase}
use Rattle.model.specs.Steps.{Ingested, advanced, all_taken, began, taken}
use Rattle.enough.proofs.Ends.{tried_phase}
use Rattle.enough.proofs.Held.{GivenTo, Settled, Sound}
use Rattle.enough.proofs.Takes.{Took, taken_in}

-- what a roster that knows the epoch tells of it
pub record Knows (a : Assignment) (e : ℕ) (roster : Roster) (ks : List (List ℕ)) : Type 0 where
  pub keys : ks ≡ a.keys e
  pub own : roster.own e ≡ a.own e
  pub few : length (a.keys e) ≤ 64
  pub up : ascending (a.keys e) ≡ true
  pub mine : (i : ℕ) → a.own e ≡ Some i → i < length (a.keys e)

pub known : (a : Assignment) (e : ℕ) (roster : Roster) (ks : List (List ℕ)) → Agrees a roster → roster.keys e ≡ Some ks → Knows a e roster ks
known a e roster ks agrees at = grind arith

module _ (limits : Limits) (m : Meaning) (a : Assignment) (c : List ℕ) (e : ℕ) (Hand : List ℕ → Indexed → Type 0) where
  abbrev pub good_here : Indexed → Bool
  good_here = good_for m limits.blob c

  abbrev pub SoundHere : List ℕ → Rec → Type 0
  SoundHere = Sound good_here (minimum_of c) (a.keys e) (a.own e) Hand

  -- a record that went on from another
  pub record Grown (lost : List ℕ) (r left : Rec) : Type 0 where
    pub sound : SoundHere lost left
    pub settled : Settled (minimum_of c) left.phase
    pub grows : (i : ℕ) → GivenTo r i → GivenTo left i

  -- within a row of intakes
  pub record Row (lost : List ℕ) (r : Rec) (i : Ingested) : Type 0 where
    pub sound : SoundHere lost i.rec
    pub grows : (n : ℕ) → GivenTo r n → GivenTo i.rec n
    pub still : i.gained ≡ false → i.rec ≡ r
    pub commitment : i.rec.commitment ≡ c

  module _ (roster : Roster) (ks : List (List ℕ)) (knows : Knows a e roster ks) (lost : List ℕ) where
    pub took : (sender : List ℕ) (s : Indexed) (r : Rec) → Hand sender s → r.commitment ≡ c → SoundHere lost r →
        Took good_here (minimum_of c) (a.keys e) (a.own e) Hand lost sender s r (intake m limits.blob ks (roster.own e) sender s r)
    unfolding intake
    took sender s r handed same k =
        let t = taken_in good_here (minimum_of c) (a.keys e) (a.own e) Hand knows.few knows.mine lost sender s handed r k in
        rw (knows.keys, knows.own)
        (subst (λ d. Took good_here (minimum_of c) (a.keys e) (a.own e) Hand lost sender s r (from_member (good_for m limits.blob d) (a.own e) sender s r (index sender (a.keys e)))) (sym same) t)

    row_on : (r : Rec) (i : Ingested) (p : Sent) → Hand p.sender p.shard → Row lost r i → Row lost r (taken limits m roster ks e i p)
    row_on r i p handed row =
        let t = took p.sender p.shard i.rec handed row.commitment row.sound in
        record {
          sound = t.sound;
          grows = λ n h. t.grows n (row.grows n h);
          still = λ quiet. grind (arith, or_parts);
          commitment = t.commitment ∙ row.commitment;
        }

    pub row_all : (r : Rec) (i : Ingested) (ps : List Sent) → AllByRecursion (λ p. Hand p.sender p.shard) ps → Row lost r i → Row lost r (all_taken limits m roster ks e i ps)
    row_all r i [] handed row = row
    row_all r i (p ∷ ps) handed row = row_all r (taken limits m roster ks e i p) ps handed.1 (row_on r i p handed.0 row)

  tried_grown : (lost : List ℕ) (r : Rec) (i : Ingested) → Row lost r i → Grown lost r (tries i.rec)
  unfolding tries
  tried_grown lost r i row =
      let q = i.rec in
      let t = tried_phase good_here (minimum_of c) (a.keys e) (a.own e) Hand q.contributed q.verified q.completions q.phase lost row.sound in
      let g : Grown lost r (with_phase (tried_in (minimum_of c) q.phase) q) = record { sound = t.0; settled = t.1; grows = λ n h. t.2 n (row.grows n h) } in
      subst (λ d. Grown lost r (with_phase (tried_in (minimum_of d) q.phase) q)) (sym row.commitment) g

  pub advanced_grown : (lost : List ℕ) (r : Rec) (i : Ingested) → Settled (minimum_of c) r.phase → Row lost r i → Grown lost r (advanced i)
  advanced_grown lost r i settled row =
      cond_both i.gained (tries i.rec) i.rec (Grown lost r)
      (λ _. tried_grown lost r i row)
      (λ quiet. record { sound = row.sound; settled = subst (λ q. Settled (minimum_of c) q.phase) (sym (row.still quiet)) settled; grows = row.grows })

  pub row-began : (lost : List ℕ) (r : Rec) → r.commitment ≡ c → SoundHere lost r → Row lost r (began r)
  row-began lost r same k = grind arith
