-- A commitment: block digest, coding root and context digest, 32 bytes each, then minimum and extra, two bytes each. Assumes nothing.
use Rattle.std.specs.Prelude.{ℕ, ◌+◌, codes, cond, List, length, take, drop, Ok, Err, Result, ◌==◌}
use Rattle.register.specs.declared.commitment.Commitment.{Commitment}
use Rattle.register.specs.declared.commitment.Config.{Config}
use Rattle.register.specs.declared.commitment.Malformed.{Malformed}
use Rattle.register.specs.declared.commitment.Malformed.TheVariants.{Length, ZeroMinimum, ZeroExtra}
use Rattle.register.specs.Words.{word}

abbrev pub block_of : List ℕ → List ℕ
block_of bytes = take 32 bytes

abbrev pub root_of : List ℕ → List ℕ
root_of bytes = take 32 (drop 32 bytes)

abbrev pub context_of : List ℕ → List ℕ
context_of bytes = take 32 (drop 64 bytes)

-- the config in the four bytes at i
abbrev pub config_at : List ℕ → ℕ → Config
config_at bytes i = record { minimum = word bytes i 2; extra = word bytes (i + 2) 2 }

abbrev pub config_of : List ℕ → Config
config_of bytes = config_at bytes 96

-- what a config and a coding root decide, asked of a commitment
abbrev pub under : {A : Type 0} → (Config → List ℕ → A) → List ℕ → A
under f bytes = f (config_of bytes) (root_of bytes)

-- what 100 bytes are read as; of two zero halves the minimum is named
abbrev pub committed : List ℕ → Result (List ℕ) Malformed
committed bytes =
    cond (length bytes == 100)
    (cond ((config_of bytes).minimum == 0) (Err ZeroMinimum) (cond ((config_of bytes).extra == 0) (Err ZeroExtra) (Ok bytes)))
    (Err Length)

-- the bytes in an answer
abbrev pub bytes_in : Result Commitment Malformed → Result (List ℕ) Malformed
bytes_in (Ok c) = Ok c.bytes
bytes_in (Err e) = Err e

-- what a person is told
abbrev pub malformed_text : Malformed → List ℕ
malformed_text Length = codes "a commitment has 100 bytes"
malformed_text ZeroMinimum = codes "the commitment's minimum is zero"
malformed_text ZeroExtra = codes "the commitment's extra is zero"
