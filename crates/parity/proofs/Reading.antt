-- Reading the framed blob in picks of one length by position. Assumes nothing.
use Rattle.std.proofs.Common.{◌≡◌, ℕ, zero, suc, ◌+◌, ◌-◌, ◌*◌, ◌/◌, ◌%◌, ◌<◌, ◌≤◌, Bool, Bor, true, false, ◌&&◌, ◌||◌, eqb, List, [], ◌∷◌, ◌++◌, map, length, get_or, take, drop, sym, ap, ◌∙◌, subst, ⊎_elim, le_of_suc-le-suc, mul-zero, zero-add, arith, length-take-le, take-add}
use borrow.Rule.Slice.PartMut.{put_mid}
use Rattle.std.proofs.Math.Seq.{paste}
use Rattle.std.proofs.lemmas.Nat.{div-add-mod', div_below, mod_below}
use Rattle.std.proofs.lemmas.List.Edits.{drop-paste, take-paste}
use Rattle.std.proofs.lemmas.List.FromFn.{fill_by_all, get_or-map-range_with_len, length-map-range_with_len}
use Rattle.std.proofs.lemmas.List.{append_assoc, at_drop_all, at_drop_more, drop-drop, drop-take, take-take, get_or-drop, get_or-map, get_or-take, length-drop, length-map}
use Rattle.std.proofs.lemmas.Bool.{and_parts, cases_Bool, cond-false, cond-true, eqb-true}
use Rattle.std.specs.List.{list_all, range_with_len}
use Rattle.tree.proofs.Joining.{Level, getD_joined, length-joined, part_joined}
use Rattle.tree.specs.Frames.{zeros}
use Rattle.parity.specs.declared.framing.Framing.{Framing}
use Rattle.parity.specs.Framings.{framed_in, size}
use Rattle.parity.specs.Parities.{empty, even, framing, mended, xored}

pub positive : (s i n : ℕ) → i < n * s → 0 < s
positive zero i n h = absurd (omega (arith, mul-zero n))
positive (suc s) i n h = omega arith

inner : (xs : List ℕ) (a b n w : ℕ) → b + n ≤ w → take n (drop (a + b) xs) ≡ take n (drop b (take w (drop a xs)))
inner xs a b n w h =
    let e : b + (w - b) ≡ w = omega arith in
    let d : drop b (take w (drop a xs)) ≡ take (w - b) (drop b (drop a xs)) = subst (λ (m : ℕ). drop b (take m (drop a xs)) ≡ take (w - b) (drop b (drop a xs))) e (drop-take b (w - b) (drop a xs)) in
    ap (take n) (sym (drop-drop b a xs)) ∙ sym (ap (take n) d ∙ take-take n (w - b) (drop b (drop a xs)) (omega arith))

module _ (s : ℕ) (ps : List (List ℕ)) where
  mended-length : (p : List ℕ) → (empty p || eqb (length p) s) ≡ true → length (mended s ps p) ≡ s
  mended-length p h =
      ⊎_elim
      (λ (e : empty p ≡ true). simp e (length-map-range_with_len (λ i. xored i ps) 0 s))
      (λ (n : empty p ≡ false). simp n (eqb-true (length p) s (simp n at h)))
      (cases_Bool (empty p))

  even_level : (qs : List (List ℕ)) → even s qs ≡ true → Level (mended s ps) s [] qs
  even_level [] e j h = absurd (omega arith)
  even_level (q ∷ qs) e zero h = mended-length q (and_parts _ _ e).0
  even_level (q ∷ qs) e (suc j) h = even_level qs (and_parts _ _ e).1 j (le_of_suc-le-suc h)

  module _ (e : even s ps ≡ true) where
    front : length (take (length ps - 1) ps) ≡ length ps - 1
    front = length-take-le (length ps - 1) ps (omega arith)

    level : Level (mended s ps) s [] (take (length ps - 1) ps)
    level j h =
        let k : j < length ps - 1 = subst (λ (n : ℕ). j < n) front h in
        rw (get_or-take (length ps - 1) ps j [] k) (even_level ps e j (omega arith))

    pub length-framing : length (framing s ps) ≡ (length ps - 1) * s
    length-framing = length-joined (mended s ps) s [] (take (length ps - 1) ps) level ∙ ap (λ (n : ℕ). n * s) front

    module _ (i : ℕ) (h : i < (length ps - 1) * s) where
      some : 0 < s
      some = positive s i (length ps - 1) h

      piece : i / s < length ps - 1
      piece = div_below i s (length ps - 1) some h

      pub framing-at : get_or (framing s ps) i 0 ≡ get_or (mended s ps (get_or ps (i / s) [])) (i % s) 0
      framing-at =
          let k : i / s < length (take (length ps - 1) ps) = subst (λ (n : ℕ). i / s < n) (sym front) piece in
          ap (λ (n : ℕ). get_or (framing s ps) n 0) (sym (div-add-mod' i s))
          ∙ getD_joined (mended s ps) s [] (take (length ps - 1) ps) (i / s) (i % s) level k (mod_below i s some)
          ∙ rw (get_or-take (length ps - 1) ps (i / s) [] piece)

      pub run_is : (n : ℕ) → i % s + n ≤ s → take n (drop i (framing s ps)) ≡ take n (drop (i % s) (mended s ps (get_or ps (i / s) [])))
      run_is n r =
          let k : i / s < length (take (length ps - 1) ps) = subst (λ (n : ℕ). i / s < n) (sym front) piece in
          ap (λ (m : ℕ). take n (drop m (framing s ps))) (sym (div-add-mod' i s))
          ∙ inner (framing s ps) (i / s * s) (i % s) n s r
          ∙ ap (λ (p : List ℕ). take n (drop (i % s) p)) (part_joined (mended s ps) s [] (take (length ps - 1) ps) (i / s) level k ∙ rw (get_or-take (length ps - 1) ps (i / s) [] piece))

      at_void : empty (get_or ps (i / s) []) ≡ true → xored (i % s) ps ≡ get_or (framing s ps) i 0
      at_void t =
          sym (framing-at ∙ simp t (get_or-map-range_with_len (λ i. xored i ps) 0 s (i % s) (i % s) 0 (mod_below i s some) (zero-add (i % s))))

      at_full : empty (get_or ps (i / s) []) ≡ false → get_or (get_or ps (i / s) []) (i % s) 0 ≡ get_or (framing s ps) i 0
      at_full t = sym (framing-at ∙ simp t)

counted_part : (f : ℕ → ℕ) (s a n : ℕ) → a + n ≤ s → take n (drop a (map f (range_with_len 0 s))) ≡ map (λ k. f (a + k)) (range_with_len 0 n)
counted_part f s a n h =
    let l : length (map f (range_with_len 0 s)) ≡ s = length-map-range_with_len f 0 s in
    let m : n ≤ length (drop a (map f (range_with_len 0 s))) = simp (length-drop, l) (omega arith) in
    fill_by_all (λ k. f (a + k)) (take n (drop a (map f (range_with_len 0 s)))) n 0 (length-take-le n (drop a (map f (range_with_len 0 s))) m)
    (λ k b.
    get_or-take n (drop a (map f (range_with_len 0 s))) k 0 b
    ∙ get_or-drop a (map f (range_with_len 0 s)) k 0
    ∙ get_or-map-range_with_len f 0 s (a + k) (a + k) 0 (omega arith) (zero-add (a + k)))

pub length-framed_in : (f : Framing) → length (framed_in f) ≡ size f
length-framed_in f = length-framing f.width (map (λ x. x.now) f.picks.now) f.evened ∙ simp length-map

-- the pick that a byte is in
module _ (f : Framing) (i : ℕ) (h : i < size f) where
  abbrev lists : List (List ℕ)
  lists = map (λ x. x.now) f.picks.now

  within : i < (length lists - 1) * f.width
  within = simp length-map h

  pub byte-index : i / f.width < length f.picks.now
  byte-index = omega (arith, piece f.width lists f.evened i within, length-map f.picks.now (λ x. x.now))

  at : (z : Bor (List ℕ)) → get_or lists (i / f.width) [] ≡ (get_or f.picks.now (i / f.width) z).now
  at z = get_or-map (λ x. x.now) f.picks.now (i / f.width) z [] byte-index

  pub byte_void : (z : Bor (List ℕ)) (r : ℕ) → true ≡ empty (get_or f.picks.now (i / f.width) z).now → r ≡ xored (i % f.width) lists → r ≡ get_or (framed_in f) i 0
  byte_void z r t q = q ∙ at_void f.width lists f.evened i within (ap empty (at z) ∙ sym t)

  pub byte_full : (z : Bor (List ℕ)) (r : ℕ) → false ≡ empty (get_or f.picks.now (i / f.width) z).now → r ≡ get_or (get_or f.picks.now (i / f.width) z).now (i % f.width) 0 → r ≡ get_or (framed_in f) i 0
  byte_full z r t q =
      q ∙ ap (λ (p : List ℕ). get_or p (i % f.width) 0) (sym (at z)) ∙ at_full f.width lists f.evened i within (ap empty (at z) ∙ sym t)

-- a test of each byte from a on
pub zeros_over : (bytes : List ℕ) (a n : ℕ) → a + n ≡ length bytes → list_all (λ i. eqb (get_or bytes i 0) 0) (range_with_len a n) ≡ zeros (drop a bytes)
zeros_over bytes a zero e = sym (at_drop_all zeros bytes a (omega arith))
zeros_over bytes a (suc n) e =
    ap (λ (z : Bool). eqb (get_or bytes a 0) 0 && z) (zeros_over bytes (a + 1) n (omega arith))
    ∙ sym (at_drop_more zeros bytes a 0 (omega arith))

-- a run inside one piece
module _ (f : Framing) (i n : ℕ) (h : i < size f) (r : i % f.width + n ≤ f.width) where
  abbrev others : List (List ℕ)
  others = map (λ x. x.now) f.picks.now

  lies : take n (drop i (framed_in f)) ≡ take n (drop (i % f.width) (mended f.width others (get_or others (i / f.width) [])))
  lies = run_is f.width others f.evened i (within f i h) n r

  -- the piece at hand, by whether it is there
  piece_full : (z : Bor (List ℕ)) → false ≡ empty (get_or f.picks.now (i / f.width) z).now → mended f.width others (get_or others (i / f.width) []) ≡ (get_or f.picks.now (i / f.width) z).now
  piece_full z t =
      let p = (get_or f.picks.now (i / f.width) z).now in
      ap (mended f.width others) (at f i h z) ∙ cond-false (empty p) (map (λ i. xored i others) (range_with_len 0 f.width)) p (sym t)

  piece_void : (z : Bor (List ℕ)) → true ≡ empty (get_or f.picks.now (i / f.width) z).now → mended f.width others (get_or others (i / f.width) []) ≡ map (λ i. xored i others) (range_with_len 0 f.width)
  piece_void z t =
      let p = (get_or f.picks.now (i / f.width) z).now in
      ap (mended f.width others) (at f i h z) ∙ cond-true (empty p) (map (λ i. xored i others) (range_with_len 0 f.width)) p (sym t)

  pub run_full : (z : Bor (List ℕ)) (out : List ℕ) → false ≡ empty (get_or f.picks.now (i / f.width) z).now → out ≡ take n (drop (i % f.width) (get_or f.picks.now (i / f.width) z).now) → out ≡ take n (drop i (framed_in f))
  run_full z out t q = q ∙ sym (lies ∙ ap (λ (p : List ℕ). take n (drop (i % f.width) p)) (piece_full z t))

  pub run_void : (z : Bor (List ℕ)) (out : List ℕ) → true ≡ empty (get_or f.picks.now (i / f.width) z).now → out ≡ map (λ k. xored (i % f.width + k) others) (range_with_len 0 n) → out ≡ take n (drop i (framed_in f))
  run_void z out t q =
      q
      ∙ sym (lies ∙ ap (λ (p : List ℕ). take n (drop (i % f.width) p)) (piece_void z t)
      ∙ counted_part (λ i. xored i others) f.width (i % f.width) n r)

  pub run_end : (z : Bor (List ℕ)) → false ≡ empty (get_or f.picks.now (i / f.width) z).now → i % f.width + n ≤ length (get_or f.picks.now (i / f.width) z).now
  run_end z t =
      let k : i / f.width < length others = simp length-map (byte-index f i h) in
      let l : length (mended f.width others (get_or others (i / f.width) [])) ≡ f.width = even_level f.width others others f.evened (i / f.width) k in
      omega (arith, r, sym (ap length (piece_full z t)) ∙ l)

-- what is written at the front, and what is left behind it
module _ (entry bytes : List ℕ) (n : ℕ) (enough : n ≤ length bytes) where
  pub pasted_front : take n (paste entry 0 bytes n) ≡ take n bytes
  pasted_front =
      subst (λ (m : ℕ). take m (paste entry 0 bytes n) ≡ take n bytes) (zero-add n) (take-paste entry 0 bytes n (omega arith) enough)

  pub pasted_back : drop n (paste entry 0 bytes n) ≡ drop n entry
  pasted_back =
      subst (λ (m : ℕ). drop m (paste entry 0 bytes n) ≡ drop m entry) (zero-add n) (drop-paste entry 0 bytes n (omega arith) enough)

-- writing run after run
pub part_length : (xs : List ℕ) (a n : ℕ) → a + n ≤ length xs → length (take (a + n - a) (drop a xs)) ≡ n
part_length xs a n h =
    let e : a + n - a ≡ n = omega arith in
    simp e (length-take-le n (drop a xs) (simp length-drop (omega arith)))

pub write_run : (entry place bytes out : List ℕ) (done run m p : ℕ) → place ≡ paste entry 0 (drop 4 bytes) done → 4 + (done + run) ≤ length bytes → m ≡ run → p ≡ run → out ≡ take p (drop (4 + done) bytes) → put_mid done m place out ≡ paste entry 0 (drop 4 bytes) (done + run)
write_run entry place bytes out done run m p e l em ep q =
    let enough : done ≤ length (drop 4 bytes) = simp length-drop (omega arith) in
    let a : take done place ≡ take done (drop 4 bytes) = ap (take done) e ∙ pasted_front entry (drop 4 bytes) done enough in
    let b : drop m (drop done place) ≡ drop (done + run) entry = ap (λ (x : List ℕ). drop m x) (ap (drop done) e ∙ pasted_back entry (drop 4 bytes) done enough) ∙ ap (λ (x : ℕ). drop x (drop done entry)) em ∙ drop-drop run done entry in
    let o : out ≡ take run (drop done (drop 4 bytes)) = q ∙ ap (λ (x : ℕ). take x (drop (4 + done) bytes)) ep ∙ ap (take run) (sym (drop-drop done 4 bytes)) in
    ap (λ (x : List ℕ). x ++ (out ++ drop m (drop done place))) a
    ∙ ap (λ (x : List ℕ). take done (drop 4 bytes) ++ (x ++ drop m (drop done place))) o
    ∙ ap (λ (x : List ℕ). take done (drop 4 bytes) ++ (take run (drop done (drop 4 bytes)) ++ x)) b
    ∙ sym (append_assoc (take done (drop 4 bytes)) (take run (drop done (drop 4 bytes))) (drop (done + run) entry))
    ∙ ap (λ (x : List ℕ). x ++ drop (done + run) entry) (sym (take-add done run (drop 4 bytes)))
    ∙ ap (λ (x : ℕ). take (done + run) (drop 4 bytes) ++ drop x entry) (sym (zero-add (done + run)))
