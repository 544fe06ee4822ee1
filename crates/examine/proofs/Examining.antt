-- With as many places for verdicts as there are shards, none checked before, a reconstruction tells of the file. Assumes nothing.
use Rattle.std.proofs.Common.{◌≡◌, ℕ, ◌-◌, ◌≤◌, Bool, true, cond, List, [], map, length, drop, is_some, Some, None, Option, sym, ap, ◌∙◌, subst, arith, le-leb, MatchOption}
use Rattle.std.proofs.lemmas.List.{append-nil, drop_all, length-map, length-replicate}
use Rattle.choice.specs.Choices.{good_by, opens_by, reads_by}
use Rattle.reconstruct.specs.Gathered.{gathered, roomy}
use Rattle.reconstruct.specs.Outcomes.{ended, filled}
use Rattle.reconstruct.specs.Rebuilt.{rebuilt}
use Rattle.reconstruct.specs.declared.outcome.Outcome.{Outcome}
use Rattle.register.specs.Commitments.{under}
use Rattle.scheme.specs.Pieces.{Indexed, indexed, judged}
use Rattle.scheme.specs.Told.{Opened}
use Rattle.scheme.specs.declared.piece.Piece.{Piece}
use Rattle.shardfile.specs.declared.file.ShardFile.{ShardFile}
use Rattle.examine.specs.Examines.{Examines, digest, empty, good, minimum, shards}

roomy_all : (n k : ℕ) → k ≡ n → roomy 0 n k ≡ true
roomy_all n k e =
    let first : 0 ≤ n = omega arith in
    let fit : n - 0 ≤ k = omega arith in
    simp (le-leb 0 n first, le-leb (n - 0) k fit)

judged_all : (q : ℕ → List ℕ → Bool) (ss : List Indexed) (v : List Bool) → length v ≡ length ss → judged q ss v ≡ map (λ s. q s.index s.bytes) ss
judged_all q ss v e =
    let fit : length ss ≤ length v = omega arith in
    let none : drop (length ss) v ≡ [] = drop_all (length ss) v (omega arith) in
    simp (le-leb (length ss) (length v) fit, none, append-nil)

-- what is told, at any limit and of any shards
module _ (file : ShardFile) (limit : ℕ) where
  abbrev good_at : ℕ → List ℕ → Bool
  good_at = under (good_by file.scheme (digest file)) file.commitment.bytes limit

  module _ (ss : List Indexed) where
    abbrev kept_at : List Indexed
    kept_at = gathered good_at 0 ss

    abbrev opened_at : Opened
    opened_at = under (opens_by file.scheme (digest file)) file.commitment.bytes limit kept_at

    abbrev ended_at : Outcome
    ended_at = ended (minimum file) kept_at (rebuilt (digest file) (reads_by file.kind (digest file)) file.commitment.bytes opened_at)

    abbrev filled_at : List ℕ → List ℕ
    filled_at place = filled (minimum file) kept_at opened_at place

-- the room is enough, so there is an outcome, and it is the file's
module _ (file : ShardFile) (ps : List Piece) (v : List Bool) (room : length v ≡ length ps) (r : Option Outcome) (z : List ℕ) (gives : r ≡ cond (roomy 0 (length ps) (length v)) (Some (ended_at file (length z) (map indexed ps))) None) where
  given : r ≡ Some (ended_at file (length z) (map indexed ps))
  given =
      gives
      ∙ ap (λ (b : Bool). cond b (Some (ended_at file (length z) (map indexed ps))) None) (roomy_all (length ps) (length v) room)

  pub is_given : is_some r ≡ true
  is_given = ap is_some given

  abbrev Writes : List ℕ → Type 0
  Writes y = y ≡ cond (roomy 0 (length ps) (length v)) (filled_at file (length z) (map indexed ps) z) z

  abbrev Judges : List Bool → Type 0
  Judges w = MatchOption r (w ≡ v) (λ _. w ≡ judged (good_at file (length z)) (map indexed ps) v)

  module _ (o : Outcome) (some : r ≡ Some o) (arrived : map indexed ps ≡ shards file) (clear : z ≡ empty file) where
    limit : length z ≡ file.limit
    limit = ap length clear ∙ length-replicate file.limit 0

    ends : o ≡ ended_at file file.limit (shards file)
    ends =
        let same : o ≡ ended_at file (length z) (map indexed ps) = let g = given in cc in
        same
        ∙ ap (λ (n : ℕ). ended_at file n (map indexed ps)) limit
        ∙ ap (λ (ss : List Indexed). ended_at file file.limit ss) arrived

    fills : (y : List ℕ) → Writes y → y ≡ filled_at file file.limit (shards file) (empty file)
    fills y w =
        w
        ∙ ap (λ (b : Bool). cond b (filled_at file (length z) (map indexed ps) z) z) (roomy_all (length ps) (length v) room)
        ∙ ap (λ (n : ℕ). filled_at file n (map indexed ps) z) limit
        ∙ ap (λ (ss : List Indexed). filled_at file file.limit ss z) arrived
        ∙ ap (filled_at file file.limit (shards file)) clear

    judges : (w : List Bool) → Judges w → w ≡ map (good file) (shards file)
    judges w j =
        let many : length v ≡ length (map indexed ps) = room ∙ sym (length-map ps indexed) in
        subst (λ (x : Option Outcome). MatchOption x (w ≡ v) (λ _. w ≡ judged (good_at file (length z)) (map indexed ps) v)) some j
        ∙ judged_all (good_at file (length z)) (map indexed ps) v many
        ∙ ap (λ (n : ℕ). map (λ s. good_at file n s.index s.bytes) (map indexed ps)) limit
        ∙ ap (map (good file)) arrived

    pub examined : (y : List ℕ) (w : List Bool) → Writes y → Judges w → Examines file w o y
    examined y w writes j = record { judged = judges w j; ends = ends; blob = fills y writes }
