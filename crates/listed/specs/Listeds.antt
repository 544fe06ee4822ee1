-- The kind Listed: a head, the number of entries in two bytes, then of each entry its length in two bytes and its content. Assumes nothing.
use Rattle.std.specs.Prelude.{ℕ, zero, suc, ◌+◌, if◌then◌else◌, ◌&&◌, List, ◌++◌, length, take, drop, Some, None, Option, nat_le, slice_index}
use Rattle.std.specs.Option.{option_and_then, option_map}
use Rattle.register.specs.Words.{word}
use Rattle.block.specs.Heads.{head_length}
use Rattle.block.specs.declared.kind.Reading.{Reading}
use Rattle.listed.specs.declared.walk.Walk.{Walk}

-- past one entry: the digest becomes the hash of itself followed by the content
abbrev pub entry_walked : (List ℕ → List ℕ) → List ℕ → Walk → Option Walk
entry_walked digest blob w =
    if nat_le (w.at + 2) (length blob) && nat_le (w.at + 2 + word blob w.at 2) (length blob)
    then Some (record {
      at = w.at + 2 + word blob w.at 2;
      digest = digest (w.digest ++ take (word blob w.at 2) (drop (w.at + 2) blob));
    })
    else None

-- past as many entries as the count says
abbrev pub walked : (List ℕ → List ℕ) → List ℕ → ℕ → Walk → Option Walk
walked digest blob zero w = Some w
walked digest blob (suc n) w = option_and_then (walked digest blob n) (entry_walked digest blob w)

-- before the first entry: the digest is that of the head
abbrev pub walk_start : (List ℕ → List ℕ) → List ℕ → Walk
walk_start digest blob =
    record { at = head_length blob + 2; digest = digest (take (head_length blob) blob) }

-- the block that ends where the last entry does
abbrev pub listed_ends : List ℕ → Walk → Reading
listed_ends blob w =
    record { len = w.at; context_from = 1; context_len = slice_index blob 0; digest = w.digest }

abbrev pub listed_reads : (List ℕ → List ℕ) → List ℕ → Option Reading
listed_reads digest blob =
    if nat_le (head_length blob + 2) (length blob)
    then option_map (listed_ends blob) (walked digest blob (word blob (head_length blob) 2) (walk_start digest blob))
    else None
