-- Counting: how often a number stands in a list, and how many distinct numbers there can be.
use Rattle.std.proofs.Common.{◌≡◌, ℕ, ◌<◌, ◌≤◌, true, eqb, List, [], ◌∷◌, length, subst, map-id, ⊎_elim, arith}
use Rattle.std.proofs.lemmas.Bool.{cases_eq, eqb-true, ne_eqb}
use Rattle.std.proofs.lemmas.List.Elements.{All-contains, All-from_recursion}
use Rattle.std.proofs.lemmas.Map.Made.{length-le_from_is_member}
use Rattle.std.proofs.lemmas.Map.Steps.{length-le_from_distinct_below}
use Rattle.std.proofs.lemmas.Map.Views.{Contains-from_any}
use Rattle.std.specs.Cmp.{nat_eq_equiv}
use Rattle.std.specs.List.{AllByRecursion, IsDistinct, list_any}
use Rattle.table.proofs.Carried.{all_weaker}
use Rattle.model.specs.Promises.{Distinct}
use Rattle.runs.proofs.Tallies.{distinct, flag_most, hit_other, tally}

abbrev pub itself : ℕ → ℕ
itself n = n

-- what holds of every entry holds of one that is counted
pub counted : {X : Type 0} (at : X → ℕ) (i : ℕ) (P : X → Type 0) (xs : List X) → AllByRecursion P xs → 1 ≤ tally at i xs → (x : X) × P x × (at x ≡ i)
counted at i P [] all some = absurd (omega arith)
counted at i P (x ∷ xs) all some =
    ⊎_elim (λ e. (x, all.0, e)) (λ n. let z = hit_other i (at x) (λ e. n (cc)) in counted at i P xs all.1 (omega arith)) (cases_eq (at x) i)

-- distinct numbers are counted at most once
absent : (x : ℕ) (xs : List ℕ) → AllByRecursion (λ y. x ≡ y → ⊥) xs → tally itself x xs ≡ 0
absent x [] all = cc
absent x (y ∷ ys) all = omega (arith, hit_other x y all.0, absent x ys all.1)

pub once_each : (i : ℕ) (xs : List ℕ) → Distinct xs → tally itself i xs ≤ 1
once_each i [] d = omega arith
once_each i (x ∷ xs) d =
    ⊎_elim (λ e. let z : tally itself i xs ≡ 0 = rw e (absent x xs d.0) in omega (arith, flag_most (eqb i x)))
    (λ n. omega (arith, hit_other i x n, once_each i xs d.1))
    (cases_eq i x)

-- distinct numbers, as std says it
apart : (xs : List ℕ) → Distinct xs → IsDistinct eqb xs
unfolding IsDistinct
apart [] d = tt
apart (x ∷ xs) d = grind (arith, all_weaker, ne_eqb, apart xs d.1)

found : (P : ℕ → Type 0) (xs : List ℕ) (q : ℕ) → AllByRecursion P xs → list_any (eqb q) xs ≡ true → P q
found P xs q all here = All-contains P xs q (All-from_recursion P xs all) (Contains-from_any eqb-true q xs here)

-- numbers below P that are counted at most once are at most P
pub crowded : (P : ℕ) (xs : List ℕ) → AllByRecursion (λ x. x < P) xs → ((i : ℕ) → tally itself i xs ≤ 1) → length xs ≤ P
crowded P xs all few =
    length-le_from_distinct_below xs P (apart xs (subst Distinct (map-id xs) (distinct itself xs few))) (λ q here. found (λ x. x < P) xs q all here)

stands : (q : ℕ) (xs : List ℕ) → 1 ≤ tally itself q xs → list_any (eqb q) xs ≡ true
stands q [] some = absurd (omega arith)
stands q (x ∷ xs) some = grind (arith, stands q xs)

-- distinct numbers each of which is counted in a list are at most as many as its entries
pub covered : (ps xs : List ℕ) → Distinct ps → AllByRecursion (λ p. 1 ≤ tally itself p xs) ps → length ps ≤ length xs
covered ps xs d all = length-le_from_is_member nat_eq_equiv ps xs (apart ps d) (λ q here. grind (arith, stands, found))
