-- What is true of the record of a commitment and of the events since its admission, and how a call carries it on.
use Rattle.std.proofs.Common.{◌≡◌, ℕ, zero, suc, ◌≤◌, true, false, List, [], ◌∷◌, length, get_or, replicate, Some, Option, refl, ⊎_elim, arith}
use Rattle.std.proofs.lemmas.List.{length-replicate}
use Rattle.std.proofs.lemmas.Bool.{both_ways}
use Rattle.std.specs.List.{AllByRecursion}
use Rattle.register.specs.declared.counters.Round.{Round}
use Rattle.rosters.specs.Sound.{ascending, index}
use Rattle.scheme.specs.Pieces.{Indexed}
use Rattle.table.proofs.Carried.{all_weaker}
use Rattle.model.specs.Calls.{Answer, is_commitment}
use Rattle.model.specs.Histories.{Assignment, Brings, Counts, Event, HandedIn}
use Rattle.model.specs.Meaning.{Meaning, minimum_of}
use Rattle.model.specs.Promises.{Completing, EndedAbove}
use Rattle.model.specs.State.{Limits, Rec, new_record}
use Rattle.runs.proofs.Tallies.{flag}
use Rattle.enough.proofs.Draws.{Grown, SoundHere, good_here}
use Rattle.enough.proofs.Held.{GivenTo, Lost, Settled}

-- a larger bound holds too
pub ended_above_more : (m n : ℕ) (x : Answer) → m ≤ n → EndedAbove m x → EndedAbove n x
ended_above_more m n x h a = grind arith

-- a commitment's minimum is not zero
pub some-minimum : (c : List ℕ) → is_commitment c ≡ true → 1 ≤ minimum_of c
some-minimum c = grind arith

unset : (n i : ℕ) → get_or (replicate n false) i false ≡ false
unset zero i = refl
unset (suc n) zero = refl
unset (suc n) (suc i) = unset n i

module _ (limits : Limits) (m : Meaning) (a : Assignment) (c : List ℕ) (ep : ℕ) (Hand : List ℕ → Indexed → Type 0) where
  pub record Live (es : List Event) (r : Rec) : Type 0 where
    pub lost : List ℕ
    pub sound : SoundHere limits m a c ep Hand lost r
    pub losses : AllByRecursion (Lost (good_here limits m a c ep Hand) (minimum_of c) (a.keys ep) (a.own ep) Hand) lost
    pub settled : Settled (minimum_of c) r.phase
    pub ended : AllByRecursion (λ x. Completing c x.call → EndedAbove (length lost) x.answer) es
    pub gave : (k : List ℕ) (x : Indexed) → HandedIn es c k x → index k (a.keys ep) ≡ Some x.index → good_here limits m a c ep Hand x ≡ true → GivenTo r x.index
    pub proper : is_commitment c ≡ true
    pub rising : ascending (a.keys ep) ≡ true

  -- the record went on by one event
  pub next : (es : List Event) (x : Event) (old r : Rec) (live : Live es old) (more : List ℕ) →
      Grown limits m a c ep Hand more old r →
      AllByRecursion (Lost (good_here limits m a c ep Hand) (minimum_of c) (a.keys ep) (a.own ep) Hand) more →
      length live.lost ≤ length more →
      (Completing c x.call → EndedAbove (length more) x.answer) →
      ((k : List ℕ) (s : Indexed) → Counts x.answer → Brings c k s x.call → index k (a.keys ep) ≡ Some s.index → good_here limits m a c ep Hand s ≡ true → GivenTo r s.index) →
      Live (x ∷ es) r
  next es x old r live more grown losses longer ends gets = record {
    lost = more;
    sound = grown.sound;
    losses = losses;
    settled = grown.settled;
    ended = grind (arith, all_weaker, ended_above_more);
    gave = λ k s handed at good. ⊎_elim (λ h. gets k s h.0 h.1 at good) (λ h. grown.grows s.index (live.gave k s h at good)) handed;
    proper = live.proper;
    rising = live.rising;
  }

  -- a record that has just come in
  pub entered_live : (x₀ r : Rec) → Grown limits m a c ep Hand [] x₀ r → is_commitment c ≡ true → ascending (a.keys ep) ≡ true → Live [] r
  entered_live x₀ r grown proper rising = grind arith

  pub new_grown : (round : Round) (leader : Option (List ℕ)) → is_commitment c ≡ true → Grown limits m a c ep Hand [] (new_record c round leader) (new_record c round leader)
  new_grown round leader proper = record {
    sound = (
      record {
        long = length-replicate 64 false;
        assigned = λ v i o. absurd (both_ways false refl v);
        tallied = λ i. let z : flag (get_or (replicate 64 false) i false) ≡ 0 = rw (unset 64 i) in omega arith;
        received = tt;
        checked = tt;
        pending = tt;
        job = tt;
      },
      omega arith,
    );
    settled = some-minimum c proper;
    grows = λ i h. h;
  }
