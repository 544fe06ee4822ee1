-- The kind Plain: a head, the payload's length in two bytes, the payload. Its digest is the hash of all that. Assumes nothing.
use Rattle.std.specs.Prelude.{ℕ, ◌+◌, if◌then◌else◌, ◌&&◌, List, length, take, Some, None, Option, nat_le, slice_index}
use Rattle.register.specs.Words.{word}
use Rattle.block.specs.Heads.{head_length}
use Rattle.block.specs.declared.kind.Reading.{Reading}

-- where the payload begins
abbrev pub payload_from : List ℕ → ℕ
payload_from blob = head_length blob + 2

-- where it ends, and the block with it
abbrev pub plain_length : List ℕ → ℕ
plain_length blob = payload_from blob + word blob (head_length blob) 2

abbrev pub plain_reads : (List ℕ → List ℕ) → List ℕ → Option Reading
plain_reads digest blob =
    if nat_le (payload_from blob) (length blob) && nat_le (plain_length blob) (length blob)
    then Some (record {
      len = plain_length blob;
      context_from = 1;
      context_len = slice_index blob 0;
      digest = digest (take (plain_length blob) blob);
    })
    else None
