-- The front that every block kind shares: a byte n, n context bytes, parent digest, height in eight bytes. Assumes nothing.
use Rattle.std.specs.Prelude.{ℕ, ◌+◌, if◌then◌else◌, List, length, Some, None, Option, nat_le, slice_index}
use Rattle.register.specs.Words.{word}
use Rattle.block.specs.declared.head.Head.{Head}

-- the bytes through the height
abbrev pub head_length : List ℕ → ℕ
head_length blob = slice_index blob 0 + 41

abbrev pub head_of : List ℕ → Option Head
head_of blob =
    if nat_le (head_length blob) (length blob)
    then Some (record { context_len = slice_index blob 0; height = record { 0 = word blob (slice_index blob 0 + 33) 8 } })
    else None
