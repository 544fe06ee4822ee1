-- A member that keeps to the rules is never reported.
use Rattle.std.proofs.Common.{◌≡◌, ℕ, true, not, List, is_some, IfSome, Some, None, filter, Option, ap, subst, arith}
use Rattle.std.proofs.lemmas.Slice.Eq.{bytes_eq-Decides}
use Rattle.std.proofs.lemmas.Bool.{both_ways}
use Rattle.std.specs.List.{AllByRecursion}
use Rattle.rosters.specs.Sound.{index}
use Rattle.scheme.specs.Pieces.{Indexed}
use Rattle.table.proofs.Carried.{all_look, all_weaker}
use Rattle.table.proofs.Lawful.{found_exactly}
use Rattle.model.specs.Calls.{Answer, refused, answered, changed_peers, given, told}
use Rattle.model.specs.Histories.{Announced, Assignment, Event, HandedIn, Leads}
use Rattle.model.specs.Intake.{index_of, intake}
use Rattle.model.specs.Jobs.{failing, job_in}
use Rattle.model.specs.Meaning.{Meaning, good_for}
use Rattle.model.specs.Promises.{Blameless, NobodyWithoutCause, Spares}
use Rattle.model.specs.State.{Job, Limits, Rec, Sent, State}
use Rattle.runs.proofs.Each.{all_filter}
use Rattle.runs.proofs.Entries.{number_laws, number_same}
use Rattle.runs.proofs.Intakes.{intake_ways}
use Rattle.runs.proofs.Places.{index_same, stray_not_at, stray_not_own}
use Rattle.runs.proofs.Reached.{Reports, Seated, kept}
use Rattle.runs.proofs.Records.{fine_keeps, FineRecord, Holds, Pending, Received, out_of}
use Rattle.std.specs.Ordering.{nat_cmp}

module _ (limits : Limits) (m : Meaning) (a : Assignment) (h : List Event) (k : List ℕ) (blameless : Blameless limits m a h k) where
  abbrev H : List ℕ → List ℕ → Indexed → Type 0
  H = HandedIn h

  abbrev A : List ℕ → ℕ → Type 0
  A = Announced h

  abbrev FineHere : Rec → Type 0
  FineHere = FineRecord limits m a H A

  abbrev Another : List ℕ → Type 0
  Another key = key ≡ k → ⊥

  spared : (keys : List (List ℕ)) (own : Option ℕ) (sender : List ℕ) (s : Indexed) (r : Rec) → Seated a r.round.epoch.0 keys own → H r.commitment sender s → FineHere r → IfSome (intake m limits.blob keys own sender s r).report (λ _. Another sender)
  spared keys own sender s r seat handed fine =
      let c = r.commitment in
      let e = r.round.epoch.0 in
      let mine : sender ≡ k → H c k s = λ same. subst (λ j. H c j s) same handed in
      let here : sender ≡ k → (o : Option ℕ) → index sender keys ≡ o → index k (a.keys e) ≡ o = λ same o at. subst (λ ks. index k ks ≡ o) seat.keys_are (subst (λ j. index j keys ≡ o) same at) in
      intake_ways m limits.blob keys own sender s r (λ t. IfSome t.report (λ _. Another sender))
      (record {
        drops = tt;
        stranger = λ none same. both_ways (is_some (index k (a.keys e))) (ap is_some (here same None none)) (blameless.member c e fine.announced);
        strays = λ place at class same.
            let p = here same (Some place) at in
            grind (arith, stray_not_at r.leader sender place s.index own class, stray_not_own r.leader sender place s.index own class, blameless.placed c e s fine.announced (mine same));
        equivocates = λ w x early at differ same.
            let got : Received limits m a H A c e x = all_look nat_cmp index_of (Received limits m a H A c e) s.index w.received x at (subst (Holds limits m a H A c e r.contributed) early fine.holds).received in
            let place : x.index ≡ s.index = found_exactly nat_cmp index_of number_laws number_same s.index w.received x at in
            let theirs : got.sender ≡ k → good_for m limits.blob c x ≡ true = λ who. blameless.good c e x fine.announced (subst (λ j. H c j x) who got.handed) in
            let good : good_for m limits.blob c x ≡ true = grind (arith, got.cause, index_same got.sender k (a.keys e) x.index, theirs, blameless.placed c e s fine.announced (mine same)) in
            let one : x ≡ s =
            blameless.alike c x s
            (record { good = good; sender = got.sender; handed = got.handed })
            (record { good = blameless.good c e s fine.announced (mine same); sender = sender; handed = handed }) place in
            grind (arith, one, bytes_eq-Decides x.bytes s.bytes);
        bad = λ bad same. both_ways (good_for m limits.blob c s) bad (blameless.good c e s fine.announced (mine same));
        verified = λ _ _ _ _ _ _. tt;
        waiting = λ _ _ _ _ _ _ _. tt;
      })

  -- a pending shard that a job found bad is not from k
  bad_others : (c : List ℕ) (e : ℕ) → A c e → (ps : List Sent) → AllByRecursion (Pending limits m a H A c e) ps → AllByRecursion (λ p. Another p.sender) (filter (λ p. not (good_for m limits.blob c p.shard)) ps)
  bad_others c e named ps all =
      all_filter (Pending limits m a H A c e) (λ p. Another p.sender) (λ p. not (good_for m limits.blob c p.shard))
      (λ p t k same. grind (arith, blameless.good c e p.shard named)) ps all

  blamed : (j : Job) (r : Rec) → job_in r.phase ≡ Some j → FineHere r → AllByRecursion (λ p. Another p.sender) (failing m limits.blob r.commitment j)
  blamed j r out fine = grind (arith, bad_others, out_of)

  spares : (x : Answer) → Reports Another x → Spares k x
  spares (refused n) all = tt
  spares (answered o rs y) all = all
  spares changed_peers all = tt
  spares (given b) all = tt
  spares (told b) all = tt

  all_spared : (s : State) → Leads limits m a h s → AllByRecursion (λ e. Spares k e.answer) h
  all_spared s l =
      all_weaker (λ (e : Event). Reports Another e.answer) (λ (e : Event). Spares k e.answer) (λ e. spares e.answer) h
      (kept limits m a FineHere Another h s (fine_keeps limits m a H A Another spared blamed) l).reports

pub never_without_cause : (limits : Limits) (m : Meaning) (a : Assignment) (h : List Event) (s : State) → Leads limits m a h s → NobodyWithoutCause limits m a h
never_without_cause limits m a h s l k blameless = all_spared limits m a h k blameless s l
