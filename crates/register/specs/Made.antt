-- A commitment and a key made of their bytes. Assumes nothing.
use Rattle.std.specs.Prelude.{ℕ, List}
use Rattle.register.specs.declared.commitment.Commitment.{Commitment}
use Rattle.register.specs.declared.key.Key.{Key}

unfoldable pub commitment_made : List ℕ → Commitment
commitment_made bytes = record { bytes = bytes }

unfoldable pub key_made : List ℕ → Key
key_made bytes = record { bytes = bytes }
