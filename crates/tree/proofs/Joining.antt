-- Lists of one length, joined, and their parts. Assumes nothing.
use Rattle.std.proofs.Common.{◌≡◌, ℕ, zero, suc, ◌+◌, ◌*◌, ◌<◌, List, [], ◌∷◌, ◌++◌, length, get_or, take, drop, sym, ap, ◌∙◌, le_of_suc-le-suc, suc-mul, zero-mul, arith, length-append, get_or-drop, get_or-take, take_at}
use Rattle.std.proofs.Math.Seq.{drop-append-add}
use Rattle.std.specs.List.{flat_map}

module _ {X : Type 0} (g : X → List ℕ) (w : ℕ) (z : X) where
  -- each is w long
  abbrev pub Level : List X → Type 0
  Level xs = (j : ℕ) → j < length xs → length (g (get_or xs j z)) ≡ w

  pub length-joined : (xs : List X) → Level xs → length (flat_map g xs) ≡ length xs * w
  length-joined [] h = sym (zero-mul w)
  length-joined (x ∷ xs) h =
      length-append (g x) (flat_map g xs) ∙ simp (h 0 (omega arith), length-joined xs (λ j k. h (suc j) (omega arith)), suc-mul) (omega arith)

  pub part_joined : (xs : List X) (j : ℕ) → Level xs → j < length xs → take w (drop (j * w) (flat_map g xs)) ≡ g (get_or xs j z)
  part_joined [] j h k = absurd (omega arith)
  part_joined (x ∷ xs) zero h k = simp zero-mul (take_at (g x) (flat_map g xs) w (h 0 k))
  part_joined (x ∷ xs) (suc j) h k =
      let e : suc j * w ≡ length (g x) + j * w = omega (arith, suc-mul j w, h 0 (omega arith)) in
      ap (λ (i : ℕ). take w (drop i (g x ++ flat_map g xs))) e
      ∙ ap (take w) (drop-append-add (g x) (flat_map g xs) (j * w))
      ∙ part_joined xs j (λ i m. h (suc i) (omega arith)) (le_of_suc-le-suc k)

  pub getD_joined : (xs : List X) (j o : ℕ) → Level xs → j < length xs → o < w → get_or (flat_map g xs) (j * w + o) 0 ≡ get_or (g (get_or xs j z)) o 0
  getD_joined xs j o h k l =
      sym (get_or-drop (j * w) (flat_map g xs) o 0)
      ∙ sym (get_or-take w (drop (j * w) (flat_map g xs)) o 0 l)
      ∙ ap (λ (p : List ℕ). get_or p o 0) (part_joined xs j h k)
