-- How a reconstruction ends, by what was gathered. Assumes nothing.
use Rattle.std.proofs.Common.{◌≡◌, ℕ, ◌<◌, ◌≤◌, true, List, map, length, take, Some, sym, ap, ◌∙◌, le-ltb, lt-ltb}
use Rattle.std.proofs.lemmas.Option.{cond_some}
use Rattle.scheme.specs.Pieces.{indexed}
use Rattle.scheme.specs.declared.piece.Piece.{Piece}
use Rattle.reconstruct.specs.Coders.{Gathers, GathersAll, Terms, all, counted, outcome_of, place_after}
use Rattle.reconstruct.specs.Gathered.{roomy}
use Rattle.reconstruct.specs.Rebuilt.{written}
use Rattle.reconstruct.specs.declared.outcome.Outcome.TheVariants.{Decoded, Insufficient}

module _ (t : Terms) (checked : ℕ) (ps : List Piece) (verdicts k : ℕ) (e : Some k ≡ counted t.good checked ps verdicts) where
  room : (roomy checked (length ps) verdicts ≡ true) × (length (all t.good checked ps) ≡ k)
  room = cond_some (roomy checked (length ps) verdicts) (length (all t.good checked ps)) k (sym e)

  pub ends_short : k < t.minimum → (Some (Insufficient k) ≡ outcome_of t checked ps verdicts) × ((place : List ℕ) → place ≡ place_after t checked ps verdicts place)
  ends_short h =
      let c = room in
      (simp (c.0, c.1, lt-ltb k t.minimum h), λ place. simp (c.0, c.1, lt-ltb k t.minimum h))

  pub ends_decoded : t.minimum ≤ k → (Some (Decoded (t.reads (t.opens (all t.good checked ps)))) ≡ outcome_of t checked ps verdicts) × ((place : List ℕ) → written (t.opens (all t.good checked ps)) place ≡ place_after t checked ps verdicts place)
  ends_decoded h =
      let c = room in
      (simp (c.0, c.1, le-ltb k t.minimum h), λ place. simp (c.0, c.1, le-ltb k t.minimum h))

  -- what was gathered stands in front, by its own length
  pub fronted : (after : List Piece) → Gathers t.good checked ps after k → GathersAll t.good checked ps after
  fronted after g = ap (λ (n : ℕ). map indexed (take n after)) room.1 ∙ g
