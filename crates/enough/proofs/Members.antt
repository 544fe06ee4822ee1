-- Members by their keys and places.
use Rattle.std.proofs.Common.{◌≡◌, ℕ, zero, suc, ◌<◌, true, List, [], ◌∷◌, length, get_or, Some, Less, le_of_suc-le-suc, arith}
use Rattle.std.proofs.lemmas.Bool.{and_parts}
use Rattle.std.specs.Cmp.{tied_itself}
use Rattle.std.specs.Ordering.{is_lt}
use Rattle.std.specs.List.{AllByRecursion}
use Rattle.register.specs.Order.{order}
use Rattle.rosters.specs.Sound.{ascending, index, rises}
use Rattle.table.proofs.Carried.{all_weaker}
use Rattle.runs.proofs.Each.{all_get_or}
use Rattle.runs.proofs.Entries.{byte_laws}

all_rises : (k : List ℕ) (ks : List (List ℕ)) → rises k ks ≡ true → AllByRecursion (λ l. order k l ≡ Less) ks
all_rises k [] up = tt
all_rises k (l ∷ ks) up =
    let parts = and_parts (is_lt (order k l)) (rises l ks) up in
    let low : order k l ≡ Less = grind arith in
    (low, all_weaker (λ x. order l x ≡ Less) (λ x. order k x ≡ Less) (λ x h. byte_laws.trans k l x low h) ks (all_rises l ks parts.1))

rises_on : (k : List ℕ) (ks : List (List ℕ)) → rises k ks ≡ true → ascending ks ≡ true
rises_on k ks up = grind arith

-- each key of a roster stands at its own place
pub own_place : (ks : List (List ℕ)) (i : ℕ) → ascending ks ≡ true → i < length ks → index (get_or ks i []) ks ≡ Some i
own_place [] i up h = absurd (omega arith)
own_place (k ∷ ks) zero up h = simp (tied_itself byte_laws k)
own_place (k ∷ ks) (suc i) up h =
    let low = all_get_or (λ l. order k l ≡ Less) ks i [] (le_of_suc-le-suc h) (all_rises k ks up) in
    simp (low, own_place ks i (rises_on k ks up) (le_of_suc-le-suc h))
