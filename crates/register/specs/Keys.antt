-- A key is 32 bytes. Assumes nothing.
use Rattle.std.specs.Prelude.{ℕ, cond, List, length, Some, None, Option, ◌==◌}
use Rattle.register.specs.declared.key.Key.{Key}

abbrev pub key_of : List ℕ → Option (List ℕ)
key_of bytes = cond (length bytes == 32) (Some bytes) None

-- the bytes in an answer
abbrev pub bytes_in : Option Key → Option (List ℕ)
bytes_in (Some k) = Some k.bytes
bytes_in None = None
