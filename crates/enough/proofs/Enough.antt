-- Enough good shards bring the block: at least as many are in play as the minimum, and no more can be lost than are left.
use Rattle.std.proofs.Common.{◌≡◌, ℕ, ◌+◌, ◌-◌, ◌<◌, ◌≤◌, Bool, true, false, ◌⊎◌, List, [], ◌++◌, map, length, get_or, Some, None, Err, filter, Option, sym, refl, ap, ◌∙◌, subst, inl, inr, ⊎_elim, arith, length-append}
use Rattle.std.proofs.lemmas.List.{length-map}
use Rattle.std.proofs.lemmas.Bool.{cases_lt}
use Rattle.std.specs.Option.{option_map}
use Rattle.std.specs.List.{AllByRecursion}
use Rattle.reconstruct.specs.declared.error.Error.{Error}
use Rattle.scheme.specs.Pieces.{Indexed}
use Rattle.table.proofs.Carried.{all_weaker}
use Rattle.model.specs.Calls.{refused, completion, block_look_up, is_commitment, phase_of}
use Rattle.model.specs.Histories.{Agrees, Assignment, Entry, Event, HandedIn, Leads, since}
use Rattle.model.specs.Intake.{index_of}
use Rattle.model.specs.Jobs.{completes, job_in, passing, shard_of}
use Rattle.model.specs.Meaning.{Meaning, Roster, good_for, minimum_of, rebuilt_for}
use Rattle.model.specs.Promises.{CompletesWell, Completing, EndedAbove, Enough, EnoughBringTheBlock, GoesOn, HandsIn, Sufficient, asked}
use Rattle.model.specs.State.{Job, Limits, Phase, awaiting, cached, Rec, Shards, State, filed_under, record_of}
use Rattle.model.specs.Steps.{completion_of, step}
use Rattle.model.specs.declared.answer.Refusal.TheVariants.{NoBlock}
use Rattle.runs.proofs.Each.{all_append, all_with}
use Rattle.runs.proofs.Entries.{by_option, found_key}
use Rattle.runs.proofs.Intakes.{completes_ways}
use Rattle.runs.proofs.Rolls.{roll_record}
use Rattle.runs.specs.Rolls.{entry_of}
use Rattle.runs.proofs.Places.{index_below, index_same}
use Rattle.runs.proofs.Records.{sent_at}
use Rattle.runs.proofs.Tallies.{distinct, flag_most, tally, tally_append, tally_map}
use Rattle.enough.proofs.Counting.{counted, covered, crowded, itself, once_each}
use Rattle.enough.proofs.Ends.{good_checked, sorted_out}
use Rattle.enough.proofs.Held.{Given, GivenTo, InPhase, Jobbed, Lost, Settled, Waiting, few_with}
use Rattle.enough.proofs.Live.{Live, ended_above_more}
use Rattle.enough.proofs.Members.{own_place}
use Rattle.enough.proofs.Since.{standing}

module _ (limits : Limits) (m : Meaning) (a : Assignment) (h : List Event) (c : List ℕ) (entry : Entry) (places : List ℕ) (enough : Enough limits m a h c entry places) where
  -- the keys of the record's epoch, and this node's own index there
  abbrev keys : List (List ℕ)
  keys = a.keys entry.round.epoch.0

  abbrev own : Option ℕ
  own = a.own entry.round.epoch.0

  abbrev good : Indexed → Bool
  good = good_for m limits.blob c

  abbrev Hand : List ℕ → Indexed → Type 0
  Hand = HandedIn h c

  abbrev Hands : ℕ → Type 0
  Hands = HandsIn limits m a h c keys

  abbrev LiveHere : Rec → Type 0
  LiveHere = Live limits m a c entry.round.epoch.0 Hand (since limits.window c h)

  abbrev LostHere : ℕ → Type 0
  LostHere = Lost good (minimum_of c) keys own Hand

  module _ (r : Rec) (live : LiveHere r) where
    abbrev WaitingHere : Shards → Type 0
    WaitingHere w = Waiting good (minimum_of c) keys own Hand r.contributed r.verified w live.lost

    -- a place that handed in a good shard lost nothing
    never_lost : (i : ℕ) → Hands i → LostHere i → ⊥
    never_lost i hands lost =
        let key = index_same lost.key (get_or keys i []) keys i lost.place (own_place keys i live.rising hands.member) in
        let same = hands.only lost.bytes (subst (λ k. Hand k (record { index = i; bytes = lost.bytes })) key lost.handed) in
        grind (arith, lost.bad, hands.good)

    lost_apart : (ph : Phase) → InPhase good (minimum_of c) keys own Hand r.contributed r.verified r.completions live.lost ph → (i : ℕ) → tally itself i live.lost ≤ 1
    lost_apart ph k = grind arith

    -- the places and the lost indices are apart
    not_lost : (i : ℕ) → Hands i → tally itself i live.lost ≡ 0
    not_lost i hands =
        ⊎_elim
        (λ here. let l = counted itself i LostHere live.lost live.losses here in absurd (never_lost i hands (subst LostHere l.2 l.1)))
        (λ none. omega arith)
        (cases_lt 0 (tally itself i live.lost))

    not_both : (i : ℕ) → 1 ≤ tally itself i places → tally itself i live.lost ≡ 0
    not_both i some = grind (arith, counted, not_lost)

    few_lost : length places + length live.lost ≤ length keys
    few_lost =
        let long = length-append places live.lost in
        let all = crowded (length keys) (places ++ live.lost)
        (all_append (λ i. i < length keys) places live.lost
        (all_weaker Hands (λ i. i < length keys) (λ i x. x.member) places enough.each)
        (all_weaker LostHere (λ i. i < length keys) (λ i x. index_below x.key keys i x.place) live.lost live.losses))
        (λ i. once i) in
        omega arith
      where
        once : (i : ℕ) → tally itself i (places ++ live.lost) ≤ 1
        once i =
            let t = tally_append itself i places live.lost in
            let p = once_each i places enough.distinct in
            let l = lost_apart r.phase live.sound i in
            ⊎_elim (λ some. let z = not_both i some in omega arith) (λ none. omega arith) (cases_lt 0 (tally itself i places))

    pub past : AllByRecursion (λ e. Completing c e.call → EndedAbove (length keys - length places) e.answer) (since limits.window c h)
    past = grind (arith, all_weaker, few_lost, ended_above_more)

    -- each place has contributed
    pub given_places : AllByRecursion (λ p. GivenTo r p) places
    given_places =
        all_weaker Hands (λ p. GivenTo r p)
        (λ p x. live.gave (get_or keys p []) (record { index = p; bytes = x.bytes }) x.handed (own_place keys p live.rising x.member) x.good)
        places enough.each

    -- without a job too few would be in play
    no_job : (w : Shards) → WaitingHere w →
        AllByRecursion (λ p. get_or r.contributed p false ≡ true) places → few_with (minimum_of c) w.job w → w.job ≡ None → ⊥
    no_job w k came settled none =
        let few : length w.checked + length w.pending < minimum_of c = grind arith in
        let shown = map index_of w.checked ++ map sent_at w.pending in
        let all = covered places shown enough.distinct
        (all_with Hands (λ p. get_or r.contributed p false ≡ true) (λ p. 1 ≤ tally itself p shown)
        (λ p hands on. let t = k.tallied p in grind (arith, not_lost p hands, tally_append, tally_map)) places enough.each came) in
        grind (arith, enough.many, length-append, length-map)

    -- what passes of a job is good, handed in, and at distinct indices
    sufficient : (w : Shards) (j : Job) → WaitingHere w →
        w.job ≡ Some j → minimum_of c ≤ length (passing m limits.blob c j) → Sufficient limits m a h c (passing m limits.blob c j)
    sufficient w j k out many =
        let kept = filter good (map shard_of j.pending) in
        let jobbed = subst (Jobbed good (minimum_of c) keys own Hand) out k.job in
        record {
          many = many;
          distinct = distinct index_of (j.checked ++ kept) (λ i. let t = k.tallied i in grind (arith, flag_most, tally_append, sorted_out));
          each = grind (arith, all_weaker, all_append, good_checked);
        }

    no_fault : (w : Shards) (j : Job) (e : Error) → WaitingHere w →
        w.job ≡ Some j → minimum_of c ≤ length (passing m limits.blob c j) → rebuilt_for m limits.blob c (passing m limits.blob c j) ≡ Err e → ⊥
    no_fault w j e k out many bad =
        let opens = enough.opens (passing m limits.blob c j) (sufficient w j k out many) in
        grind (arith, opens.opens, opens.fits)

    goes_on : (w : Shards) (j : Job) → r.commitment ≡ c → WaitingHere w →
        w.job ≡ Some j → GoesOn (completes m limits.blob j r).outcome
    goes_on w j named k out =
        completes_ways m limits.blob j r (λ e. GoesOn e.outcome)
        (record {
          short = λ _. tt;
          whole = λ _ _ _. tt;
          fault = λ e many bad. absurd
              (subst (λ d. minimum_of d ≤ length (passing m limits.blob d j) → rebuilt_for m limits.blob d (passing m limits.blob d j) ≡ Err e → ⊥) (sym named) (no_fault w j e k out) many bad);
        })

-- what a look-up answers, by why it may be turned down and by what it finds
module _ (limits : Limits) (m : Meaning) (roster : Roster) (s : State) (c : List ℕ) where
  -- a block that is there is not refused for not being there
  there : (room : ℕ) (blob : List ℕ) → is_commitment c ≡ true → phase_of (record_of c s) ≡ Some (cached blob) → (step limits m roster (block_look_up c room) s).answer ≡ refused NoBlock → ⊥
  unfolding step
  there room blob proper at = grind arith

  -- a job that is out is completed
  completing : (r : Rec) (j : Job) → is_commitment c ≡ true → record_of c s ≡ Some r → job_in r.phase ≡ Some j → GoesOn (completes m limits.blob j r).outcome →
      CompletesWell (step limits m roster (completion c (record { reports = 512; broadcast = limits.shard })) s).answer
  unfolding step completion_of
  completing r j proper at out goes = grind arith

-- the record that the roll speaks of
recorded : (o : Option Rec) (entry : Entry) → option_map entry_of o ≡ Some entry → (r : Rec) × (o ≡ Some r) × (entry_of r ≡ entry)
recorded None entry h = cc
recorded (Some r) entry h = (r, refl, cc)

pub brought : (limits : Limits) (m : Meaning) (a : Assignment) (h : List Event) (s : State) (roster : Roster) → Leads limits m a h s → Agrees a roster → EnoughBringTheBlock limits m a h (λ call. (step limits m roster call s).answer)
brought limits m a h s roster leads agrees c entry places enough =
    record { now = now r.phase refl live.sound live.settled (given_places limits m a h c entry places enough r live); past = past limits m a h c entry places enough r live }
  where
    found : (r : Rec) × (record_of c s ≡ Some r) × (entry_of r ≡ entry)
    found = recorded (record_of c s) entry (sym (roll_record limits m a h s leads c) ∙ enough.held)

    r : Rec
    r = found.0

    live : Live limits m a c entry.round.epoch.0 (HandedIn h c) (since limits.window c h) r
    live = (standing limits m a c entry.round.epoch.0 (HandedIn h c) h s leads (λ k x p. p)).live r found.1 (ap (λ n. n.round.epoch.0) found.2) enough.known

    named : r.commitment ≡ c
    named = found_key filed_under c s.records r found.1

    now : (ph : Phase) → r.phase ≡ ph → InPhase (good_for m limits.blob c) (minimum_of c) (a.keys entry.round.epoch.0) (a.own entry.round.epoch.0) (HandedIn h c) r.contributed r.verified r.completions live.lost ph →
        Settled (minimum_of c) ph → AllByRecursion (λ p. Given r.contributed p ph) places →
        ((room : ℕ) → (step limits m roster (block_look_up c room) s).answer ≡ refused NoBlock → ⊥) ⊎ CompletesWell (step limits m roster (completion c (asked limits m a h)) s).answer
    now (cached blob) is k settled came = inl (λ room. there limits m roster s c room blob live.proper (ap phase_of found.1 ∙ ap Some is))
    now (awaiting w) is k settled came =
        by_option (λ o. w.job ≡ o → ((room : ℕ) → (step limits m roster (block_look_up c room) s).answer ≡ refused NoBlock → ⊥) ⊎ CompletesWell (step limits m roster (completion c (asked limits m a h)) s).answer) w.job
        (λ _ none. absurd (no_job limits m a h c entry places enough r live w k.0 came settled none))
        (λ j _ out. inr (completing limits m roster s c r j live.proper found.1 (ap job_in is ∙ out) (goes_on limits m a h c entry places enough r live w j named k.0 out)))
        refl
