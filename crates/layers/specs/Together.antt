-- The meanings of the four layers as one, and what they say of shards. Assumes nothing.
use Rattle.std.specs.Prelude.{ℕ, Bool, List, Option}
use Rattle.block.specs.declared.kind.Reading.{Reading}
use Rattle.model.specs.Meaning.{Meaning, Roster}
use Rattle.register.specs.declared.commitment.Config.{Config}
use Rattle.scheme.specs.Pieces.{Indexed}
use Rattle.scheme.specs.Told.{Opened}
use Rattle.reconstruct.specs.Coders.{Terms, terms}

abbrev pub meaning_of : (List ℕ → List ℕ) → ((List ℕ → List ℕ) → Config → List ℕ → ℕ → ℕ → List ℕ → Bool) → ((List ℕ → List ℕ) → Config → List ℕ → ℕ → List Indexed → Opened) → ((List ℕ → List ℕ) → List ℕ → Option Reading) → Meaning
meaning_of digest good opens reads = record { digest = digest; good = good digest; opens = opens digest; reads = reads digest }

abbrev pub roster_of : (ℕ → Option (List (List ℕ))) → (ℕ → Option ℕ) → Roster
roster_of keys own = record { keys = keys; own = own }

-- what holds for shards under a commitment, and in a place of one length
abbrev pub terms_for : Meaning → List ℕ → ℕ → Terms
terms_for m commitment limit = terms m.digest m.good m.opens m.reads commitment limit
