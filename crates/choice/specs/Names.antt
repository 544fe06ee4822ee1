-- The name of each choice, and what a name stands for. Assumes nothing.
use Rattle.std.specs.Prelude.{◌≡◌, ℕ, List, codes, Ok, Err, Result, ◌≢◌}
use Rattle.choice.specs.declared.hashes.HashChoice.{HashChoice}
use Rattle.choice.specs.declared.hashes.HashChoice.TheVariants.{Sha256, Sha3}
use Rattle.choice.specs.declared.kinds.KindChoice.{KindChoice}
use Rattle.choice.specs.declared.kinds.KindChoice.TheVariants.{Plain, Listed}
use Rattle.choice.specs.declared.schemes.SchemeChoice.{SchemeChoice}
use Rattle.choice.specs.declared.schemes.SchemeChoice.TheVariants.{Copy, Parity}

abbrev pub hash_name : HashChoice → List ℕ
hash_name Sha256 = codes "sha-256"
hash_name Sha3 = codes "sha3-256"

abbrev pub scheme_name : SchemeChoice → List ℕ
scheme_name Copy = codes "copy"
scheme_name Parity = codes "parity"

abbrev pub kind_name : KindChoice → List ℕ
kind_name Plain = codes "plain"
kind_name Listed = codes "listed"

-- the choice of that name, or an error where none has it
abbrev pub Named : {C E : Type 0} → (C → List ℕ) → List ℕ → Result C E → Type 0
Named name_of name (Ok c) = name ≡ name_of c
Named {C} name_of name (Err _) = (c : C) → name ≢ name_of c
