-- A block that a look-up gives is what good shards, each handed in, open to.
use Rattle.std.proofs.Common.{◌≡◌, ℕ, ◌-◌, eqb, List, [], ◌∷◌, ◌++◌, length, drop, Some, Ok, sym, refl, ap, ◌∙◌, subst, arith, length-drop, take-append-drop}
use Rattle.std.proofs.lemmas.Grind.{common_steps}
use Rattle.std.proofs.lemmas.Bool.{and_parts, eqb-true}
use Rattle.std.specs.List.{AllByRecursion}
use Rattle.std.specs.Option.{option_map}
use Rattle.block.proofs.Whole.{matched_behind}
use Rattle.block.specs.Blobs.{parsed}
use Rattle.block.specs.declared.kind.Reading.{Reading}
use Rattle.register.specs.Commitments.{config_at, config_of}
use Rattle.scheme.specs.Pieces.{Indexed}
use Rattle.table.proofs.Carried.{all_look, all_weaker}
use Rattle.model.specs.Calls.{Call, discovery, notarization, shard, completion, peer_change, block_look_up, verified_look_up, block_in, phase_of, turned_down}
use Rattle.model.specs.Histories.{Announced, Assignment, Event, HandedIn, Leads}
use Rattle.model.specs.Meaning.{Meaning, Roster, fitted_for}
use Rattle.model.specs.Promises.{BlocksWereHandedIn, Gives, HandedInBlock}
use Rattle.model.specs.State.{Limits, Rec, State, record_of}
use Rattle.model.specs.Steps.{Step, block_given, step, unless_refused}
use Rattle.runs.proofs.Boxes.{Filled}
use Rattle.runs.proofs.Entries.{by_option, found_key}
use Rattle.runs.proofs.Reached.{Reached, kept}
use Rattle.runs.proofs.Records.{FineRecord, OpenedFrom, fine_keeps}
use Rattle.runs.proofs.Rolls.{roll_record}
use Rattle.runs.specs.Rolls.{entry_of}

-- the config in the bytes at i is that at the front of what stands behind them
config_behind : (xs : List ℕ) (i : ℕ) → config_at (drop i xs) 0 ≡ config_at xs i
config_behind xs i = grind (arith, common_steps)

-- a blob that fits ends with four bytes that spell the commitment's config
record Ends (c blob : List ℕ) : Type 0 where
  four : length (drop (length blob - 4) blob) ≡ 4
  spelled : config_at (drop (length blob - 4) blob) 0 ≡ config_of c

fitted-ends : (limits : Limits) (m : Meaning) (c blob : List ℕ) (r : Reading) → fitted_for m limits.blob c blob ≡ Ok r → Ends c blob
fitted-ends limits m c blob r e =
    let b = matched_behind m.digest c blob (m.reads blob) (parsed blob (m.reads blob)) r refl e in
    let long = b.1.long in
    let at : length blob - 4 ≡ r.len = omega arith in
    let same = and_parts (eqb b.0.minimum (config_of c).minimum) (eqb b.0.extra (config_of c).extra) b.2 in
    let low = eqb-true b.0.minimum (config_of c).minimum same.0 in
    let high = eqb-true b.0.extra (config_of c).extra same.1 in
    let config : b.0 ≡ config_of c = λ i. record { minimum = low i; extra = high i } in
    record {
      four = length-drop (length blob - 4) blob ∙ omega arith;
      spelled = config_behind blob (length blob - 4) ∙ ap (config_at blob) at ∙ b.1.is ∙ config;
    }

all_anything : {X : Type 0} (xs : List X) → AllByRecursion (λ _. Unit {0}) xs
all_anything [] = tt
all_anything (x ∷ xs) = (tt, all_anything xs)

module _ (limits : Limits) (m : Meaning) (a : Assignment) (h : List Event) where
  abbrev H : List ℕ → List ℕ → Indexed → Type 0
  H = HandedIn h

  abbrev A : List ℕ → ℕ → Type 0
  A = Announced h

  -- nothing is asked here of the keys that are reported
  abbrev Anybody : List ℕ → Type 0
  Anybody key = Unit {0}

  module _ (s : State) (leads : Leads limits m a h s) where
    here : Reached limits m a H A (FineRecord limits m a H A) Anybody h s
    here =
        kept limits m a (FineRecord limits m a H A) Anybody h s
        (fine_keeps limits m a H A Anybody (λ keys own sender s r _ _ _. grind arith) (λ j r _ _. all_anything _)) leads

    pub records_fine : AllByRecursion (FineRecord limits m a H A) s.records
    records_fine = here.sound.records

    -- what lies in a peer's box, that peer handed in
    pub boxes_filled : AllByRecursion (Filled H) s.peers
    boxes_filled = here.sound.boxes

    block_handed_in : (c : List ℕ) (r : Rec) (blob : List ℕ) → record_of c s ≡ Some r → OpenedFrom limits m a H A c r.round.epoch.0 blob → HandedInBlock limits m a h c (block_in blob)
    block_handed_in c r blob at from =
        let behind = fitted-ends limits m c blob from.reading from.fits in
        let whole : blob ≡ block_in blob ++ drop (length blob - 4) blob = sym (take-append-drop (length blob - 4) blob) in
        record {
          entry = entry_of r;
          held = roll_record limits m a h s leads c ∙ ap (option_map entry_of) at;
          shards = from.shards;
          sufficient = grind (arith, all_weaker);
          participants = grind (arith, all_weaker);
          config = drop (length blob - 4) blob;
          four = behind.four;
          spelled = behind.spelled;
          opens = from.opens ∙ ap Ok whole;
          reading = from.reading;
          fits = grind arith;
        }

    looked_up : (roster : Roster) (c : List ℕ) (room : ℕ) → Gives limits m a h (block_look_up c room) (block_given limits m roster s (phase_of (record_of c s))).answer
    looked_up roster c room = grind (arith, all_look, records_fine, found_key, block_handed_in)

    step_gives : (roster : Roster) (call : Call) → Gives limits m a h call (step limits m roster call s).answer
    unfolding step
    step_gives roster (discovery c leader round rooms) = tt
    step_gives roster (notarization c round rooms) = tt
    step_gives roster (shard c peer x rooms) = tt
    step_gives roster (completion c rooms) = tt
    step_gives roster (peer_change ks) = tt
    step_gives roster (block_look_up c room) =
        by_option (λ o. Gives limits m a h (block_look_up c room) (unless_refused limits m roster o s (block_look_up c room)).answer) (turned_down limits s (block_look_up c room))
        (λ _. looked_up roster c room) (λ _ _. tt)
    step_gives roster (verified_look_up c) = tt

pub always_handed_in : (limits : Limits) (m : Meaning) (a : Assignment) (h : List Event) (s : State) → Leads limits m a h s → BlocksWereHandedIn limits m a h
always_handed_in limits m a [] s l = tt
always_handed_in limits m a (e ∷ h) s l = (
  subst (λ (t : Step). Gives limits m a h e.call t.answer) l.3 (step_gives limits m a h l.0 l.1 e.roster e.call),
  always_handed_in limits m a h l.0 l.1,
)
