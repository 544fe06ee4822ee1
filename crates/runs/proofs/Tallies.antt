-- How often an index stands among shards, and what changes leave of it.
use Rattle.std.proofs.Common.{◌≡◌, ℕ, ◌+◌, ◌<◌, ◌≤◌, Bool, true, false, cond, not, eqb, List, [], ◌∷◌, ◌++◌, map, length, get_or, take, drop, set, filter, Ordering, Equal, refl, sum_by, arith}
use Rattle.std.proofs.lemmas.Bool.{eq-eqb, ne_eqb}
use Rattle.std.proofs.lemmas.Grind.{common_steps}
use Rattle.std.proofs.lemmas.List.Filters.{sum_by-filter_both}
use Rattle.std.proofs.lemmas.List.Recursion.{is_sum_by}
use Rattle.std.proofs.lemmas.List.Sums.{sum_by-append, sum_by-take-drop}
use Rattle.std.specs.List.{AllByRecursion}
use Rattle.table.specs.Table.{put}
use Rattle.model.specs.Promises.{Distinct}
use Rattle.runs.proofs.Each.{all_map}

-- 1 for a flag that is up
abbrev pub flag : Bool → ℕ
flag b = cond b 1 0

pub flag_most : (b : Bool) → flag b ≤ 1
flag_most true = omega arith
flag_most false = omega arith

-- 1 at the same index
abbrev pub hit : ℕ → ℕ → ℕ
hit i j = flag (eqb i j)

pub hit_same : (i j : ℕ) → i ≡ j → hit i j ≡ 1
hit_same i j e = rw (eq-eqb i j e)

pub hit_other : (i j : ℕ) → (i ≡ j → ⊥) → hit i j ≡ 0
hit_other i j n = rw (ne_eqb i j n)

module _ {X : Type 0} (index : X → ℕ) where
  abbrev pub tally : ℕ → List X → ℕ
  tally i [] = 0
  tally i (x ∷ xs) = hit i (index x) + tally i xs

  pub tally_is : (i : ℕ) (xs : List X) → tally i xs ≡ sum_by (λ x. hit i (index x)) xs
  tally_is i xs = is_sum_by (tally i) (λ x. hit i (index x)) refl (λ _ _. refl) xs

  pub tally_append : (i : ℕ) (xs ys : List X) → tally i (xs ++ ys) ≡ tally i xs + tally i ys
  tally_append i xs ys = grind (arith, tally_is, sum_by-append)

  pub tally_split : (i n : ℕ) (xs : List X) → tally i (take n xs) + tally i (drop n xs) ≡ tally i xs
  tally_split i n xs = grind (arith, tally_is, sum_by-take-drop)

  pub tally_kept : (test : X → Bool) (i : ℕ) (xs : List X) → tally i (filter test xs) ≤ tally i xs
  tally_kept test i xs =
      let both = sum_by-filter_both test (λ x. not (test x)) (λ _. refl) (λ x. hit i (index x)) xs in
      omega (arith, tally_is i xs, tally_is i (filter test xs))

  module _ {K : Type 0} (order : K → K → Ordering) (key : X → K) (i : ℕ) (e : X) where
    pub tally_put : (xs : List X) → tally i (put order key e xs) ≤ hit i (index e) + tally i xs
    tally_put [] = omega arith
    tally_put (x ∷ xs) = grind (arith, tally_put xs)

    -- under a key that is new
    pub tally_put_new : (xs : List X) → AllByRecursion (λ x. order (key x) (key e) ≡ Equal → ⊥) xs → tally i (put order key e xs) ≡ hit i (index e) + tally i xs
    tally_put_new [] new = omega arith
    tally_put_new (x ∷ xs) new = grind (arith, tally_put_new xs new.1)

  -- an index that is tallied nowhere is that of none
  pub none_there : (i : ℕ) (xs : List X) → tally i xs ≡ 0 → AllByRecursion (λ x. i ≡ index x → ⊥) xs
  none_there i [] h = tt
  none_there i (x ∷ xs) h = grind (arith, hit_same, none_there i xs (omega arith))

  -- where each index stands at most once, indices are distinct
  pub distinct : (xs : List X) → ((i : ℕ) → tally i xs ≤ 1) → Distinct (map index xs)
  distinct [] once = tt
  distinct (x ∷ xs) once =
      let here = hit_same (index x) (index x) refl in
      let most = once (index x) in
      (all_map (λ j. index x ≡ j → ⊥) index xs (none_there (index x) xs (omega arith)), distinct xs (λ i. let h = once i in omega arith))

pub tally_map : {X Y : Type 0} (index : Y → ℕ) (f : X → Y) (i : ℕ) (xs : List X) → tally index i (map f xs) ≡ tally (λ x. index (f x)) i xs
tally_map index f i [] = refl
tally_map index f i (x ∷ xs) = grind (arith, tally_map index f i xs)

pub flag_kept : (flags : List Bool) (i j : ℕ) → get_or flags j false ≡ true → get_or (set flags i true) j false ≡ true
flag_kept flags i j h = grind (arith, common_steps)

-- a flag that goes up counts one more at its index
pub flag_set : (flags : List Bool) (i j : ℕ) → i < length flags → get_or flags i false ≡ false → flag (get_or (set flags i true) j false) ≡ hit j i + flag (get_or flags j false)
flag_set flags i j within off = grind (arith, common_steps, hit_same, hit_other)
