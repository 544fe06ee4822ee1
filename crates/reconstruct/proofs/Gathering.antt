-- Gathering: the verdicts are on what is behind the checked shards, and what passed comes up behind them. Assumes nothing.
use Rattle.std.proofs.Common.{◌≡◌, ℕ, ◌+◌, ◌-◌, ◌≤◌, Bool, true, false, cond, leb, List, [], ◌∷◌, ◌++◌, map, length, take, drop, Some, None, filter, Option, sym, refl, ap, ◌∙◌, arith, length-append, length-drop, length-take-le, le-leb}
use borrow.Rule.Slice.PartMut.{put_mid}
use Rattle.std.proofs.Math.Seq.{take-append-add, take-append-le}
use Rattle.std.proofs.lemmas.List.{drop-map, length-map, map-append, take_all, take-map}
use Rattle.scheme.specs.Pieces.{Indexed, indexed, judged}
use Rattle.scheme.specs.declared.piece.Piece.{Piece}
use Rattle.reconstruct.specs.Gathered.{gathered, roomy}
use Rattle.reconstruct.specs.Passed.{passed}

first : (b : Bool) (s : Piece) (ss : List Piece) (vs : List Bool) → map indexed (passed (s ∷ ss) (b ∷ vs)) ≡ cond b (indexed s ∷ map indexed (passed ss vs)) (map indexed (passed ss vs))
first true s ss vs = refl
first false s ss vs = refl

-- what passes by verdicts of p is what p keeps
passed-kept : (p : Indexed → Bool) (ss : List Piece) (rest : List Bool) → map indexed (passed ss (map p (map indexed ss) ++ rest)) ≡ filter p (map indexed ss)
passed-kept p [] rest = refl
passed-kept p (s ∷ ss) rest =
    first (p (indexed s)) s ss (map p (map indexed ss) ++ rest)
    ∙ ap (λ (r : List Indexed). cond (p (indexed s)) (indexed s ∷ r) r) (passed-kept p ss rest)

module _ (q : ℕ → List ℕ → Bool) (s : List Piece) (n : ℕ) (v w : List Bool) (within : n ≤ length s) where
  -- what lies behind the checked shards, as a part of the slice
  abbrev part : List Piece
  part = take (length s - n) (drop n s)

  whole : part ≡ drop n s
  whole = let all : length (drop n s) ≤ length s - n = simp length-drop (omega arith) in take_all (length s - n) (drop n s) all

  long : length part ≡ length s - n
  long = ap length whole ∙ length-drop n s

  behind : map indexed part ≡ drop n (map indexed s)
  behind = ap (map indexed) whole ∙ sym (drop-map indexed n s)

  pub short_counts : (x : Option ℕ) → false ≡ leb (length part) (length v) → None ≡ cond (roomy n (length s) (length v)) x None
  short_counts x f =
      let none : false ≡ leb (length s - n) (length v) = f ∙ ap (λ (k : ℕ). leb k (length v)) long in
      simp (le-leb n (length s) within, ← none)

  pub short_judges : false ≡ leb (length part) (length v) → w ≡ judged q (map indexed part) v → w ≡ v
  short_judges f e = e ∙ simp (length-map, ← f)

  pub judges : w ≡ judged q (map indexed part) v → w ≡ judged q (drop n (map indexed s)) v
  judges e = e ∙ ap (λ (r : List Indexed). judged q r v) behind

  pub gathered-within : (r : ℕ) → r ≤ length part → n + r ≤ length s
  gathered-within r h = omega (arith, long)

  module _ (r : ℕ) (room : true ≡ leb (length part) (length v)) (e : w ≡ judged q (map indexed part) v) where
    kept : map indexed (passed part w) ≡ filter (λ i. q i.index i.bytes) (drop n (map indexed s))
    kept =
        let f : w ≡ map (λ i. q i.index i.bytes) (map indexed part) ++ drop (length (map indexed part)) v = e ∙ simp (length-map, ← room) in
        ap (λ (u : List Bool). map indexed (passed part u)) f
        ∙ passed-kept (λ i. q i.index i.bytes) part (drop (length (map indexed part)) v)
        ∙ ap (filter (λ i. q i.index i.bytes)) behind

    pub counts : r ≡ length (passed part w) → Some (n + r) ≡ cond (roomy n (length s) (length v)) (Some (length (gathered q n (map indexed s)))) None
    counts c =
        let k : r ≡ length (filter (λ i. q i.index i.bytes) (drop n (map indexed s))) = c ∙ sym (length-map (passed part w) indexed) ∙ ap length kept in
        let t : length (take n (map indexed s)) ≡ n = length-take-le n (map indexed s) (simp length-map within) in
        let some : true ≡ leb (length s - n) (length v) = room ∙ ap (λ (k : ℕ). leb k (length v)) long in
        simp (le-leb n (length s) within, ← some, length-append, t, ← k)

    pub gathers : (z : List Piece) → length z ≡ length part → r ≤ length part → take r z ≡ passed part w → map indexed (take (n + r) (put_mid n (length s - n) s z)) ≡ gathered q n (map indexed s)
    gathers z l h k =
        let t : length (take n s) ≡ n = length-take-le n s within in
        let f : r ≤ length z = omega (arith, l) in
        let g : take (n + r) (put_mid n (length s - n) s z) ≡ take n s ++ passed part w =
        simp t at (take-append-add (take n s) (z ++ drop (length s - n) (drop n s)) r)
        ∙ ap (λ (u : List Piece). take n s ++ u) (take-append-le r z (drop (length s - n) (drop n s)) f ∙ k) in
        ap (map indexed) g ∙ map-append indexed (take n s) (passed part w) ∙ simp (take-map, kept)
