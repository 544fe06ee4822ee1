-- What a maker of rosters has checked makes the roster sound.
use Rattle.std.specs.Prelude.{◌≡◌, ℕ, suc, ◌≤◌, Bool, true, false, cond, T, List, [], ◌∷◌, length, take, IfOk, Some, None, Ok, Option, Result, refl}
use Rattle.std.proofs.Common.{sym, ap, subst, ◌∙◌, arith, length-take-le}
use Rattle.std.proofs.lemmas.List.{length-map}
use Rattle.std.proofs.lemmas.Bool.{and_from, and_parts, le-leb, leb-true, ltb-true, lt-ltb}
use Rattle.std.specs.Option.{option_map}
use Rattle.std.specs.Ordering.{is_eq}
use Rattle.register.specs.Order.{order}
use Rattle.register.specs.declared.key.Key.{Key}
use Rattle.rosters.specs.Enrolled.{keys_of, seat, seated}
use Rattle.rosters.specs.Roster.{Fair}
use Rattle.rosters.specs.Sound.{all_bytes, ascending, below, bytes_of, index, sound}
use Rattle.rosters.specs.declared.fault.Fault.{Fault}
use Rattle.rosters.specs.declared.members.Members.{Members}

below_step : (b : Bool) (r : Option ℕ) (n : ℕ) → below r n ≡ true → below (cond b (Some 0) (option_map suc r)) (suc n) ≡ true
below_step true r n h = lt-ltb 0 (suc n) (omega arith)
below_step false None n h = refl
below_step false (Some i) n h = lt-ltb (suc i) (suc n) (let l = ltb-true i n h in omega arith)

index_below : (k : List ℕ) (ks : List Key) → below (index k (all_bytes ks)) (length ks) ≡ true
index_below k [] = refl
index_below k (l ∷ ks) = below_step (is_eq (order (bytes_of l) k)) (index k (all_bytes ks)) (length ks) (index_below k ks)

seat-below : (r : Option ℕ) (n : ℕ) → below r n ≡ true → IfOk (seat r) (λ own. below own n ≡ true)
seat-below None n h = tt
seat-below (Some i) n h = h

seated-below : (o : Option Key) (ks : List Key) → IfOk (seated o ks) (λ own. below own (length ks) ≡ true)
seated-below None ks = refl
seated-below (Some k) ks = seat-below (index (bytes_of k) (all_bytes ks)) (length ks) (index_below (bytes_of k) ks)

pub sound_slots : (slots ks : List Key) (o : Option Key) (own : Option ℕ) → length ks ≤ 64 → length slots ≡ 64 → take (length ks) slots ≡ ks → ascending (all_bytes ks) ≡ true → Ok own ≡ seated o ks → T (sound slots (length ks) own)
sound_slots slots ks o own few long held up at =
    let P : Result (Option ℕ) Fault → Type 0 = λ r. IfOk r (λ z. below z (length ks) ≡ true) in
    let seats : below own (length ks) ≡ true = subst P (sym at) (seated-below o ks) in
    let rise : ascending (all_bytes (take (length ks) slots)) ≡ true = ap (λ z. ascending (all_bytes z)) held ∙ up in
    subst T (sym (and_from _ _ (le-leb (length ks) 64 few) (and_from _ _ (le-leb (length ks) (length slots) (omega arith)) (and_from _ _ rise seats)))) tt

holds : (b : Bool) → T b → b ≡ true
holds true h = refl
holds false h = absurd h

-- the other way: what a sound roster tells
pub members_fair : (m : Members) → Fair (Some (keys_of m)) m.own
members_fair m =
    let n = m.count in
    let parts = and_parts _ _ (holds (sound m.keys n m.own) m.ok) in
    let more = and_parts _ _ parts.1 in
    let last = and_parts _ _ more.1 in
    let within : n ≤ length m.keys = leb-true n (length m.keys) more.0 in
    let long : length (keys_of m) ≡ n = length-map (take n m.keys) bytes_of ∙ length-take-le n m.keys within in
    let few = leb-true n 64 parts.0 in
    (omega arith, subst T (sym last.0) tt, subst T (sym (ap (below m.own) long ∙ last.1)) tt)

pub few : (ks : List Key) (keys : Option (List (List ℕ))) (own : Option ℕ) → Fair keys own → Some (all_bytes ks) ≡ keys → length ks ≤ 64
few ks keys own fair is =
    let P : Option (List (List ℕ)) → Type 0 = λ z. Fair z own in
    let h = (subst P (sym is) fair).0 in
    omega (arith, length-map ks bytes_of)
