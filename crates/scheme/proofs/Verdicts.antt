-- A loop that writes one verdict for each shard. Assumes nothing.
use Rattle.std.proofs.Common.{◌≡◌, ℕ, ◌+◌, ◌<◌, ◌≤◌, Bool, false, List, map, length, get_or, set, sym, ap, ◌∙◌, zero-add, arith, le-leb}
use Rattle.std.proofs.lemmas.Bool.{lt-leb}
use Rattle.std.proofs.Math.Seq.{paste}
use Rattle.std.proofs.lemmas.List.Edits.{paste_more}
use Rattle.std.proofs.lemmas.List.{get_or-map, length-map, take_all}
use Rattle.scheme.specs.Pieces.{indexed, judged}
use Rattle.scheme.specs.declared.piece.Piece.{Piece}

module _ (good : ℕ → List ℕ → Bool) (shards : List Piece) (room : List Bool) where
  abbrev pub verdicts : List Bool
  verdicts = map (λ s. good s.index s.bytes) (map indexed shards)

  length_verdicts : length verdicts ≡ length shards
  length_verdicts = length-map (map indexed shards) _ ∙ length-map shards indexed

  at : (i : ℕ) (z : Piece) → i < length shards → get_or verdicts i false ≡ good (get_or shards i z).index (get_or shards i z).bytes.now
  at i z h =
      let m : i < length (map indexed shards) = simp length-map h in
      get_or-map (λ s. good s.index s.bytes) (map indexed shards) i (indexed z) false m
      ∙ ap (λ s. good s.index s.bytes) (get_or-map indexed shards i z (indexed z) h)

  pub verdicts_more : (v : List Bool) (i : ℕ) (z : Piece) (r : Bool) → i < length shards → length shards ≤ length room → v ≡ paste room 0 verdicts i → r ≡ good (get_or shards i z).index (get_or shards i z).bytes.now → set v i r ≡ paste room 0 verdicts (i + 1)
  verdicts_more v i z r h fits e is =
      let n : 0 + i ≡ i = zero-add i in
      let q : get_or verdicts i false ≡ r = at i z h ∙ sym is in
      let p = paste_more room 0 verdicts i false (omega arith) (omega (arith, length_verdicts)) in
      cc

  pub verdicts_all : (v : List Bool) (i : ℕ) → length shards ≡ i → length shards ≤ length room → v ≡ paste room 0 verdicts i → v ≡ judged good (map indexed shards) room
  verdicts_all v i n fits e =
      let m : length (map indexed shards) ≡ length shards = length-map shards indexed in
      let all : length verdicts ≤ length shards = omega (arith, length_verdicts) in
      e ∙ simp (m, ← n, zero-add, le-leb _ _ fits, take_all (length shards) verdicts all)

  pub verdicts_short : length room < length shards → room ≡ judged good (map indexed shards) room
  verdicts_short h =
      let m : length (map indexed shards) ≡ length shards = length-map shards indexed in
      simp (m, lt-leb _ _ h)
