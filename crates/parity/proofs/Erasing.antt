-- Picks of which one may be missing: the exclusive or of the others is the one. Assumes nothing.
use Rattle.std.proofs.Common.{◌≡◌, ℕ, zero, suc, ◌+◌, ◌<◌, ◌≤◌, true, false, cond, not, ◌||◌, eqb, ◌⊎◌, List, [], ◌∷◌, length, get_or, fold, sym, refl, ap, ◌∙◌, inl, inr, ⊎_elim, le_of_suc-le-suc, arith, eq-eqb, ne_eqb}
use Rattle.std.specs.Int.Bits.{bit_xor, xor_assoc, xor_comm, xor_self, xor_zero_r}
use Rattle.std.proofs.lemmas.List.Sums.{count_by-le-length, sum_by-cons}
use Rattle.std.proofs.lemmas.Bool.{and_from, cond_both, or_left, or_right}
use Rattle.tree.proofs.Joining.{Level}
use Rattle.parity.specs.Parities.{counted, empty, even, width, xored}

-- each pick is there or empty
abbrev pub Partial : List (List ℕ) → List (List ℕ) → Type 0
Partial [] [] = Unit {0}
Partial [] (g ∷ gs) = ⊥
Partial (p ∷ ps) [] = ⊥
Partial (p ∷ ps) (g ∷ gs) = ((p ≡ []) ⊎ (p ≡ g)) × Partial ps gs

counted-cons : (p : List ℕ) (ps : List (List ℕ)) → counted (p ∷ ps) ≡ cond (not (empty p)) 1 0 + counted ps
counted-cons p ps = sum_by-cons (λ p. cond (not (empty p)) 1 0) p ps

counted-le : (ps : List (List ℕ)) → counted ps ≤ length ps
counted-le ps = count_by-le-length (λ p. not (empty p)) ps

counted_void : (ps : List (List ℕ)) → counted ([] ∷ ps) ≡ counted ps
counted_void ps = counted-cons [] ps ∙ omega arith

counted_more : (p : List ℕ) (ps : List (List ℕ)) → counted (p ∷ ps) ≤ 1 + counted ps
counted_more p ps =
    simp counted-cons (cond_both (not (empty p)) 1 0 (λ (n : ℕ). n + counted ps ≤ 1 + counted ps) (λ _. omega arith) (λ _. omega arith))

counted_less : (p : List ℕ) (ps : List (List ℕ)) → p ≡ [] → counted (p ∷ ps) ≡ counted ps
counted_less p ps e = ap (λ (q : List ℕ). counted (q ∷ ps)) e ∙ counted_void ps

-- none is missing
all_there : (ps gs : List (List ℕ)) → Partial ps gs → length ps ≤ counted ps → ps ≡ gs
all_there [] [] r h = refl
all_there [] (g ∷ gs) r h = absurd r
all_there (p ∷ ps) [] r h = absurd r
all_there (p ∷ ps) (g ∷ gs) (inl e, rs) h = absurd (omega (arith, counted_less p ps e, counted-le ps))
all_there (p ∷ ps) (g ∷ gs) (inr e, rs) h =
    let t : ps ≡ gs = all_there ps gs rs (omega (arith, counted_more p ps)) in
    cc

some_missing : (ps : List (List ℕ)) (j : ℕ) → j < length ps → get_or ps j [] ≡ [] → counted ps < length ps
some_missing [] j h e = absurd (omega arith)
some_missing (p ∷ ps) zero h e = omega (arith, counted_less p ps e, counted-le ps)
some_missing (p ∷ ps) (suc j) h e = omega (arith, counted_more p ps, some_missing ps j (le_of_suc-le-suc h) e)

xor_swap : (a b c : ℕ) → bit_xor (bit_xor a b) c ≡ bit_xor (bit_xor a c) b
xor_swap a b c = xor_assoc a b c ∙ ap (bit_xor a) (xor_comm b c) ∙ sym (xor_assoc a c b)

same_from_xor : (x y : ℕ) → bit_xor x y ≡ 0 → x ≡ y
same_from_xor x y e =
    sym (xor_zero_r x) ∙ ap (bit_xor x) (sym (xor_self y)) ∙ sym (xor_assoc x y y) ∙ ap (λ (z : ℕ). bit_xor z y) e

module _ (i : ℕ) where
  abbrev step : ℕ → List ℕ → ℕ
  step x p = bit_xor x (get_or p i 0)

  xor_out : (a y : ℕ) (gs : List (List ℕ)) → fold step (bit_xor a y) gs ≡ bit_xor (fold step a gs) y
  xor_out a y [] = refl
  xor_out a y (g ∷ gs) =
      ap (λ (x : ℕ). fold step x gs) (xor_swap a y (get_or g i 0)) ∙ xor_out (bit_xor a (get_or g i 0)) y gs

  one_missing : (ps gs : List (List ℕ)) → Partial ps gs → (j : ℕ) → j < length ps → get_or ps j [] ≡ [] → length ps ≤ counted ps + 1 → (a : ℕ) → bit_xor (fold step a ps) (get_or (get_or gs j []) i 0) ≡ fold step a gs
  one_missing [] gs r j h e c a = absurd (omega arith)
  one_missing (p ∷ ps) [] r j h e c a = absurd r
  one_missing (p ∷ ps) (g ∷ gs) (r, rs) zero h e c a =
      let all : ps ≡ gs = all_there ps gs rs (omega (arith, counted_less p ps e)) in
      let b : bit_xor a (get_or p i 0) ≡ a = ap (λ (q : List ℕ). bit_xor a (get_or q i 0)) e ∙ xor_zero_r a in
      ap (λ (x : ℕ). bit_xor (fold step x ps) (get_or g i 0)) b
      ∙ ap (λ (qs : List (List ℕ)). bit_xor (fold step a qs) (get_or g i 0)) all
      ∙ sym (xor_out a (get_or g i 0) gs)
  one_missing (p ∷ ps) (g ∷ gs) (inl q, rs) (suc j) h e c a =
      absurd (omega (arith, some_missing ps j (le_of_suc-le-suc h) e, counted_less p ps q))
  one_missing (p ∷ ps) (g ∷ gs) (inr q, rs) (suc j) h e c a =
      one_missing ps gs rs j (le_of_suc-le-suc h) e (omega (arith, counted_more p ps)) (bit_xor a (get_or p i 0))
      ∙ ap (λ (x : List ℕ). fold step (bit_xor a (get_or x i 0)) gs) q

  pub missing_is : (ps gs : List (List ℕ)) → Partial ps gs → (j : ℕ) → j < length ps → get_or ps j [] ≡ [] → length ps ≤ counted ps + 1 → xored i gs ≡ 0 → xored i ps ≡ get_or (get_or gs j []) i 0
  missing_is ps gs r j h e c z = same_from_xor (xored i ps) (get_or (get_or gs j []) i 0) (one_missing ps gs r j h e c 0 ∙ z)

module _ (s : ℕ) (some : 0 < s) where
  full : (g : List ℕ) → length g ≡ s → empty g ≡ false
  full g l = ne_eqb (length g) 0 (λ z. omega (arith, l, z))

  abbrev widen : ℕ → List ℕ → ℕ
  widen w p = cond (empty p) w (length p)

  width_from : (ps gs : List (List ℕ)) → Partial ps gs → Level (λ g. g) s [] gs → (a : ℕ) → (a ≡ s) ⊎ (0 < counted ps) → fold widen a ps ≡ s
  width_from [] [] r l a (inl e) = e
  width_from [] [] r l a (inr h) = absurd (omega arith)
  width_from [] (g ∷ gs) r l a h = absurd r
  width_from (p ∷ ps) [] r l a h = absurd r
  width_from (p ∷ ps) (g ∷ gs) (inl e, rs) l a h =
      ap (λ (q : List ℕ). fold widen (widen a q) ps) e
      ∙ width_from ps gs rs (λ j k. l (suc j) (omega arith)) a
      (⊎_elim (λ (b : a ≡ s). inl b) (λ (m : 0 < counted (p ∷ ps)). inr (omega (arith, counted_less p ps e))) h)
  width_from (p ∷ ps) (g ∷ gs) (inr e, rs) l a h =
      let n : length g ≡ s = l 0 (omega arith) in
      let w : widen a p ≡ s = ap (widen a) e ∙ simp (full g n) n in
      width_from ps gs rs (λ j k. l (suc j) (omega arith)) (widen a p) (inl w)

  pub width_is : (ps gs : List (List ℕ)) → Partial ps gs → Level (λ g. g) s [] gs → 0 < counted ps → width ps ≡ s
  width_is ps gs r l h = width_from ps gs r l 0 (inr h)

  pub even_is : (ps gs : List (List ℕ)) → Partial ps gs → Level (λ g. g) s [] gs → even s ps ≡ true
  even_is [] [] r l = refl
  even_is [] (g ∷ gs) r l = absurd r
  even_is (p ∷ ps) [] r l = absurd r
  even_is (p ∷ ps) (g ∷ gs) (inl e, rs) l =
      and_from (empty p || eqb (length p) s) (even s ps) (or_left (empty p) (eqb (length p) s) (ap empty e)) (even_is ps gs rs (λ j k. l (suc j) (omega arith)))
  even_is (p ∷ ps) (g ∷ gs) (inr e, rs) l =
      and_from (empty p || eqb (length p) s) (even s ps) (or_right (empty p) (eqb (length p) s) (eq-eqb (length p) s (ap length e ∙ l 0 (omega arith)))) (even_is ps gs rs (λ j k. l (suc j) (omega arith)))
