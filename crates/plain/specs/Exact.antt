-- Reading a Plain block is exact. Assumes nothing.
use Rattle.std.specs.Prelude.{◌≡◌, ℕ, ◌^◌, ◌<◌, List, ◌++◌, length, take, Some}
use Rattle.block.specs.Readings.{context_in}
use Rattle.block.specs.Written.{Bytes, HeadHolds, head_bytes, sized_bytes}
use Rattle.block.specs.declared.kind.Reading.{Reading}
use Rattle.plain.specs.Plains.{plain_reads}

-- the written form
abbrev pub plain_bytes : List ℕ → List ℕ → ℕ → List ℕ → List ℕ
plain_bytes context parent height payload = head_bytes context parent height ++ sized_bytes payload

-- what has a written form
pub record PlainHolds (context parent : List ℕ) (height : ℕ) (payload : List ℕ) : Type 0 where
  pub head : HeadHolds context parent height
  pub payload_short : length payload < 2 ^ 16

-- how a written block is read
abbrev pub plain_reading : (List ℕ → List ℕ) → List ℕ → List ℕ → ℕ → List ℕ → Reading
plain_reading digest context parent height payload =
    record {
      len = length (plain_bytes context parent height payload);
      context_from = 1;
      context_len = length context;
      digest = digest (plain_bytes context parent height payload);
    }

-- a block that is written is read back, and its context found, whatever stands behind it
abbrev pub PlainReadBack : Type 0
PlainReadBack =
    (digest : List ℕ → List ℕ) (context parent : List ℕ) (height : ℕ) (payload rest : List ℕ) → PlainHolds context parent height payload →
    (plain_reads digest (plain_bytes context parent height payload ++ rest) ≡ Some (plain_reading digest context parent height payload))
    × (context_in (plain_bytes context parent height payload ++ rest) (plain_reading digest context parent height payload) ≡ context)

-- the front of a blob is the written form of some block
pub record PlainForm (blob : List ℕ) (len : ℕ) : Type 0 where
  pub context : List ℕ
  pub parent : List ℕ
  pub height : ℕ
  pub payload : List ℕ
  pub holds : PlainHolds context parent height payload
  pub form : take len blob ≡ plain_bytes context parent height payload

-- a block that is read was written
abbrev pub PlainWasWritten : Type 0
PlainWasWritten =
    (digest : List ℕ → List ℕ) (blob : List ℕ) (r : Reading) → Bytes blob → plain_reads digest blob ≡ Some r → PlainForm blob r.len
