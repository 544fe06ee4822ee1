-- Reading a head, and fitting a blob, are exact. Assumes nothing.
use Rattle.std.specs.Prelude.{◌≡◌, ℕ, ◌+◌, List, ◌++◌, length, take, drop, Some, Ok, Option}
use Rattle.block.specs.declared.head.Head.{Head}
use Rattle.block.specs.declared.kind.Reading.{Reading}
use Rattle.block.specs.Blobs.{fitted}
use Rattle.block.specs.Heads.{head_of}
use Rattle.block.specs.Written.{Bytes, HeadHolds, head_bytes}

-- a head that is written is read back, whatever stands behind it
abbrev pub HeadReadBack : Type 0
HeadReadBack =
    (context parent : List ℕ) (height : ℕ) (rest : List ℕ) → HeadHolds context parent height →
    head_of (head_bytes context parent height ++ rest) ≡ Some (record { context_len = length context; height = record { 0 = height } })

-- the front of a blob is the written form of some head
pub record HeadForm (blob : List ℕ) (h : Head) : Type 0 where
  pub context : List ℕ
  pub parent : List ℕ
  pub holds : HeadHolds context parent h.height.0
  pub form : take (h.context_len + 41) blob ≡ head_bytes context parent h.height.0

-- a head that is read was written
abbrev pub HeadWasWritten : Type 0
HeadWasWritten = (blob : List ℕ) (h : Head) → Bytes blob → head_of blob ≡ Some h → HeadForm blob h

-- a blob that fits a commitment is its block with the commitment's config behind it
abbrev pub FittedWhole : Type 0
FittedWhole =
    (digest : List ℕ → List ℕ) (reads : List ℕ → Option Reading) (commitment blob : List ℕ) (r : Reading) →
    Bytes commitment → length commitment ≡ 100 → Bytes blob → fitted digest reads commitment blob ≡ Ok r →
    blob ≡ take r.len blob ++ take 4 (drop 96 commitment)
