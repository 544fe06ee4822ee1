-- The messages that the stored digests are of.
use Rattle.std.specs.Prelude.{ℕ, zero, suc, ◌+◌, ◌*◌, ◌/◌, ◌%◌, List, [], ◌++◌, map}
use Rattle.std.specs.List.{range_with_len}

-- byte i of the pattern of n bytes
abbrev pub pattern_byte : ℕ → ℕ → ℕ
pattern_byte n i = (i * 7 + n * 13 + i / 256 * 31) % 251

abbrev pub pattern : ℕ → List ℕ
pattern n = map (pattern_byte n) (range_with_len 0 n)

-- a text, n times over
unfoldable pub repeated : ℕ → List ℕ → List ℕ
repeated zero text = []
repeated (suc n) text = repeated n text ++ text
