-- Reading a Listed block is exact. Assumes nothing.
use Rattle.std.specs.Prelude.{◌≡◌, ℕ, ◌^◌, ◌<◌, List, [], ◌++◌, length, take, Some, fold, slice_index_or}
use Rattle.std.specs.List.{flat_map}
use Rattle.block.specs.Readings.{context_in}
use Rattle.block.specs.Written.{Bytes, HeadHolds, head_bytes, number_bytes, sized_bytes}
use Rattle.block.specs.declared.kind.Reading.{Reading}
use Rattle.listed.specs.Listeds.{listed_reads}

-- the written form
abbrev pub listed_bytes : List ℕ → List ℕ → ℕ → List (List ℕ) → List ℕ
listed_bytes context parent height entries =
    head_bytes context parent height ++ (number_bytes 2 (length entries) ++ flat_map sized_bytes entries)

-- the hash of the head, which takes each entry in order
abbrev pub listed_digest : (List ℕ → List ℕ) → List ℕ → List ℕ → ℕ → List (List ℕ) → List ℕ
listed_digest digest context parent height entries =
    fold (λ so_far content. digest (so_far ++ content)) (digest (head_bytes context parent height)) entries

-- each entry has a length that fits two bytes
abbrev pub EntriesShort : List (List ℕ) → Type 0
EntriesShort entries = (i : ℕ) → length (slice_index_or entries i []) < 2 ^ 16

-- what has a written form
pub record ListedHolds (context parent : List ℕ) (height : ℕ) (entries : List (List ℕ)) : Type 0 where
  pub head : HeadHolds context parent height
  pub few : length entries < 2 ^ 16
  pub short : EntriesShort entries

-- how a written block is read
abbrev pub listed_reading : (List ℕ → List ℕ) → List ℕ → List ℕ → ℕ → List (List ℕ) → Reading
listed_reading digest context parent height entries =
    record {
      len = length (listed_bytes context parent height entries);
      context_from = 1;
      context_len = length context;
      digest = listed_digest digest context parent height entries;
    }

-- a block that is written is read back, and its context found, whatever stands behind it
abbrev pub ListedReadBack : Type 0
ListedReadBack =
    (digest : List ℕ → List ℕ) (context parent : List ℕ) (height : ℕ) (entries : List (List ℕ)) (rest : List ℕ) → ListedHolds context parent height entries →
    (listed_reads digest (listed_bytes context parent height entries ++ rest) ≡ Some (listed_reading digest context parent height entries))
    × (context_in (listed_bytes context parent height entries ++ rest) (listed_reading digest context parent height entries) ≡ context)

-- the front of a blob is the written form of some block
pub record ListedForm (blob : List ℕ) (len : ℕ) : Type 0 where
  pub context : List ℕ
  pub parent : List ℕ
  pub height : ℕ
  pub entries : List (List ℕ)
  pub holds : ListedHolds context parent height entries
  pub form : take len blob ≡ listed_bytes context parent height entries

-- a block that is read was written
abbrev pub ListedWasWritten : Type 0
ListedWasWritten =
    (digest : List ℕ → List ℕ) (blob : List ℕ) (r : Reading) → Bytes blob → listed_reads digest blob ≡ Some r → ListedForm blob r.len
