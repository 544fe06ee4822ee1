-- A part put back into memory: what lies elsewhere then.
use Rattle.std.proofs.Common.{◌≡◌, ℕ, ◌+◌, ◌*◌, ◌<◌, ◌≤◌, inl, inr, List, length, take, drop, sym, ap, ◌∙◌, arith}
use borrow.Rule.Slice.PartMut.{put_mid}
use Rattle.std.proofs.lemmas.Bool.{cases_lt}
use Rattle.std.proofs.lemmas.List.{drop-take}
use Rattle.std.proofs.lemmas.Nat.{rows}
use Rattle.std.proofs.lemmas.Slice.{drop-put_mid, take-put_mid_below}

-- a place that is not this one lies wholly below or above it
pub step_up : (i j size : ℕ) → i < j → i * size + size ≤ j * size
step_up i j size h = grind (arith, rows)

module _ {X : Type 0} (a k : ℕ) (xs ys : List X) (long : length ys ≡ k) (inside : a + k ≤ length xs) where
  pub put-below : (o n : ℕ) → o + n ≤ a → take n (drop o (put_mid a k xs ys)) ≡ take n (drop o xs)
  put-below o n h =
      sym (drop-take o n (put_mid a k xs ys)) ∙ ap (drop o) (take-put_mid_below a k xs ys (o + n) h (omega arith)) ∙ drop-take o n xs

  pub put-above : (o n : ℕ) → a + k ≤ o → take n (drop o (put_mid a k xs ys)) ≡ take n (drop o xs)
  put-above o n h = ap (take n) (drop-put_mid a k xs ys o h (omega arith) long)

-- what is put at the front of a place leaves what lies in other places
module _ {X : Type 0} (size place k : ℕ) (xs ys : List X) (fits : k ≤ size) (long : length ys ≡ k) (inside : place * size + size ≤ length xs) where
  pub put_elsewhere : (other n : ℕ) → (other ≡ place → ⊥) → n ≤ size → take n (drop (other * size) (put_mid (place * size) k xs ys)) ≡ take n (drop (other * size) xs)
  put_elsewhere other n ne h =
      elim (cases_lt other place) [
        | inl lt ↦ let s = step_up other place size lt in put-below (place * size) k xs ys long (omega arith) (other * size) n (omega arith)
        | inr ge ↦ let s = step_up place other size (omega (arith, ne, ge)) in put-above (place * size) k xs ys long (omega arith) (other * size) n (omega arith)
      ]
