-- One level up a path. Assumes nothing.
use Rattle.std.proofs.Common.{◌≡◌, ℕ, ◌+◌, ◌*◌, ◌/◌, ◌%◌, ◌^◌, ◌≤◌, List, ◌++◌, length, take, drop, sym, ap, ◌∙◌, add-one, arith, length-append, length-drop, take_at, drop_at}
use Rattle.std.proofs.Math.Seq.{drop-drop}
use Rattle.std.proofs.lemmas.Nat.{shr-shr}
use Rattle.tree.specs.Trees.{above, climbed}

-- the sibling that is next, and what is left of the path behind it
module _ (path rest next sibling : List ℕ) (n : ℕ) (left : rest ≡ drop (32 * n) path) (parts : rest ≡ sibling ++ next) (long : length sibling ≡ 32) where
  pub sibling_is : sibling ≡ take 32 (drop (32 * n) path)
  sibling_is = sym (take_at sibling next 32 long) ∙ ap (take 32) (sym parts ∙ left)

  pub left_more : (m : ℕ) → m ≡ n + 1 → next ≡ drop (32 * m) path
  left_more m e =
      let at : 32 * n + 32 ≡ 32 * m = omega arith in
      sym (drop_at sibling next 32 long) ∙ ap (drop 32) (sym parts ∙ left) ∙ drop-drop 32 (32 * n) path ∙ ap (λ (i : ℕ). drop i path) at

  pub within_more : (m : ℕ) → m ≡ n + 1 → 32 * n ≤ length path → 32 * m ≤ length path
  within_more m e h = omega (arith, ap length parts, ap length left, length-append sibling next, length-drop (32 * n) path)

module _ (index n place : ℕ) (at : place ≡ index / 2 ^ n) (m : ℕ) (e : m ≡ n + 1) where
  pub place_more : place / 2 ≡ index / 2 ^ m
  place_more = ap (λ (p : ℕ). p / 2) at ∙ shr-shr index n 1 ∙ ap (λ (i : ℕ). index / 2 ^ i) (sym e)

module _ (digest : List ℕ → List ℕ) (leaf : List ℕ) (index : ℕ) (path : List ℕ) (n place : ℕ) (at : place ≡ index / 2 ^ n) (m : ℕ) (e : m ≡ n + 1) where
  pub climb_more : (node next sibling : List ℕ) → node ≡ climbed digest leaf index path n → sibling ≡ take 32 (drop (32 * n) path) → next ≡ above digest (place % 2) node sibling → next ≡ climbed digest leaf index path m
  climb_more node next sibling h s k = k ∙ simp (s, h, at, e, add-one)
