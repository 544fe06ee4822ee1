-- What intake and a completion can come to, each with what led there.
use Rattle.std.proofs.Common.{◌≡◌, ℕ, suc, ◌<◌, ◌≤◌, true, false, ◌⊎◌, List, length, get_or, Some, None, Ok, Err, Option, arith}
use Rattle.std.specs.Str.{bytes_eq}
use Rattle.block.specs.declared.kind.Reading.{Reading}
use Rattle.reconstruct.specs.declared.error.Error.{Error}
use Rattle.rosters.specs.Sound.{index}
use Rattle.scheme.specs.Pieces.{Indexed}
use Rattle.model.specs.Intake.{assigned, owned, stray, Taken, classed, dropped, intake, received_at, rejected, verifies, waits}
use Rattle.model.specs.Jobs.{Ended, completes, decoded, numbered, passing, shortened}
use Rattle.model.specs.Meaning.{Meaning, good_for, minimum_of, opened_for, rebuilt_for}
use Rattle.model.specs.State.{Job, awaiting, Rec, Shards}
use Rattle.model.specs.declared.answer.Reason.TheVariants.{Stranger, WrongIndex, Equivocation, BadAssigned}

-- whatever each way of intake leaves is left by intake
module _ (m : Meaning) (limit : ℕ) (keys : List (List ℕ)) (own : Option ℕ) (sender : List ℕ) (s : Indexed) (r : Rec) (Q : Taken → Type 0) where
  pub record Ways : Type 0 where
    pub drops : Q (dropped r)
    pub stranger : index sender keys ≡ None → Q (rejected Stranger r)
    pub strays : (place : ℕ) → index sender keys ≡ Some place → classed own r.leader sender place s.index ≡ stray → Q (rejected WrongIndex r)
    pub equivocates : (w : Shards) (x : Indexed) → r.phase ≡ awaiting w → received_at s.index w ≡ Some x → bytes_eq x.bytes s.bytes ≡ false → Q (rejected Equivocation r)
    pub bad : good_for m limit r.commitment s ≡ false → Q (rejected BadAssigned r)
    pub verified : (place : ℕ) → index sender keys ≡ Some place → classed own r.leader sender place s.index ≡ assigned → get_or r.contributed s.index false ≡ false → r.verified ≡ false → good_for m limit r.commitment s ≡ true → Q (verifies own s r)
    pub waiting : (place : ℕ) (w : Shards) → index sender keys ≡ Some place → r.phase ≡ awaiting w → received_at s.index w ≡ None → get_or r.contributed s.index false ≡ false → ((classed own r.leader sender place s.index ≡ assigned) × (r.verified ≡ true)) ⊎ (classed own r.leader sender place s.index ≡ owned) → Q (waits sender s w r)

  pub intake_ways : Ways → Q (intake m limit keys own sender s r)
  unfolding intake
  intake_ways ways = grind arith

-- too few shards pass, or they give a block, or a fault
module _ (m : Meaning) (limit : ℕ) (j : Job) (r : Rec) (Q : Ended → Type 0) where
  pub record CompletionWays : Type 0 where
    pub short : length (passing m limit r.commitment j) < minimum_of r.commitment → Q (shortened (suc r.completions) (passing m limit r.commitment j) (numbered r))
    pub whole : (reading : Reading) → minimum_of r.commitment ≤ length (passing m limit r.commitment j) → rebuilt_for m limit r.commitment (passing m limit r.commitment j) ≡ Ok reading → Q (decoded (suc r.completions) (opened_for m limit r.commitment (passing m limit r.commitment j)) (Ok reading) (numbered r))
    pub fault : (e : Error) → minimum_of r.commitment ≤ length (passing m limit r.commitment j) → rebuilt_for m limit r.commitment (passing m limit r.commitment j) ≡ Err e → Q (decoded (suc r.completions) (opened_for m limit r.commitment (passing m limit r.commitment j)) (Err e) (numbered r))

  pub completes_ways : CompletionWays → Q (completes m limit j r)
  unfolding completes
  completes_ways ways = grind arith
