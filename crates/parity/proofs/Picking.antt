-- The search for a pick, and picks written one after the other. Assumes nothing.
use Rattle.std.proofs.Common.{◌≡◌, ℕ, ◌+◌, ◌<◌, true, false, not, eqb, Option, Some, None, unwrap_or, List, [], ◌∷◌, map, length, take, set, sym, refl, ◌∙◌, ⊎_elim, zero-add, arith, length-set, Bor}
use Rattle.std.specs.List.{range_with_len, filter, find}
use Rattle.std.specs.Option.{option_map}
use Rattle.std.proofs.lemmas.Bool.{cases_Bool}
use Rattle.std.proofs.lemmas.List.FromFn.{map-range_with_len_more}
use Rattle.std.proofs.lemmas.List.{map_push, take_more_set}
use Rattle.scheme.specs.declared.piece.Piece.{Piece}
use Rattle.scheme.specs.Pieces.{Indexed, indexed}
use Rattle.tree.specs.Trees.{depth, payload}
use Rattle.parity.specs.Parities.{empty, pick, picks}

pub unwrap_now : (o : Option (Bor (List ℕ))) (z : Bor (List ℕ)) → (unwrap_or o z).now ≡ unwrap_or (option_map (λ r. r.now) o) z.now
unwrap_now None z = refl
unwrap_now (Some r) z = refl

module _ (d index : ℕ) where
  pub pick_is : (shards : List Piece) → unwrap_or (find (λ p. not (empty p)) (map (λ s. payload d s.bytes.now) (filter (λ s. eqb s.index index) shards))) [] ≡ pick d (map indexed shards) index
  pick_is [] = refl
  pick_is (s ∷ ss) =
      ⊎_elim
      (λ (a : eqb s.index index ≡ true).
      ⊎_elim
      (λ (b : empty (payload d s.bytes.now) ≡ true). simp (a, b) (pick_is ss))
      (λ (b : empty (payload d s.bytes.now) ≡ false). simp (a, b))
      (cases_Bool (empty (payload d s.bytes.now))))
      (λ (a : eqb s.index index ≡ false). simp a (pick_is ss))
      (cases_Bool (eqb s.index index))

-- picks written one after the other
pub front_more : {X : Type 0} (f : X → List ℕ) (g : ℕ → List ℕ) (xs : List X) (i at : ℕ) (x : X) → (length xs ≡ 64) × (map f (take i xs) ≡ map g (range_with_len 0 i)) → i < 64 → at ≡ i → f x ≡ g i → (length (set xs at x) ≡ 64) × (map f (take (i + 1) (set xs at x)) ≡ map g (range_with_len 0 (i + 1)))
front_more f g xs i at x v h a e =
    let room : i < length xs = omega (arith, v.0) in (
      length-set xs at x ∙ v.0,
      rw (a, take_more_set xs i x room) (map_push f (take i xs) x ∙ simp (v.1, e) (sym (map-range_with_len_more g 0 i i (zero-add i)))),
    )

pub front_all : {X : Type 0} (f : X → List ℕ) (xs : List X) (shards : List Indexed) (last wide levels i : ℕ) → i ≡ last + 1 → wide ≡ last → levels ≡ depth wide → map f (take i xs) ≡ map (pick levels shards) (range_with_len 0 i) → map f (take (last + 1) xs) ≡ picks last shards
front_all f xs shards last wide levels i n w l e = simp (n, l, w) at e
