-- Content behind its length: what is written is read back, and what is read was written. Assumes nothing.
use Rattle.std.proofs.Common.{◌≡◌, ℕ, ◌+◌, ◌^◌, ◌<◌, ◌≤◌, List, ◌++◌, length, take, drop, sym, ap, ◌∙◌, append_assoc, arith, length-append, length-drop, length-take-le, take-add, drop_at}
use Rattle.std.proofs.Math.Seq.{drop-append-add, take-append_seam}
use Rattle.register.specs.Words.{word}
use Rattle.block.specs.Written.{Bytes, number_bytes, sized_bytes}
use Rattle.block.proofs.Numbers.{length_number, number_word, word_behind}

pub length_sized : (content : List ℕ) → length (sized_bytes content) ≡ 2 + length content
length_sized content =
    length-append (number_bytes 2 (length content)) content
    ∙ ap (λ (k : ℕ). k + length content) (length_number 2 (length content))

module _ (front content rest : List ℕ) where
  -- its length, behind a front
  pub sized_length : length content < 2 ^ 16 → word (front ++ (sized_bytes content ++ rest)) (length front) 2 ≡ length content
  sized_length h =
      ap (λ (xs : List ℕ). word (front ++ xs) (length front) 2) (append_assoc (number_bytes 2 (length content)) content rest)
      ∙ word_behind front 2 (length content) (content ++ rest) h

  -- and the content itself
  pub sized_content : take (length content) (drop (length front + 2) (front ++ (sized_bytes content ++ rest))) ≡ content
  sized_content =
      ap (take (length content)) (
      drop-append-add front (sized_bytes content ++ rest) 2
      ∙ ap (drop 2) (append_assoc (number_bytes 2 (length content)) content rest)
      ∙ drop_at (number_bytes 2 (length content)) (content ++ rest) 2 (length_number 2 (length content))
      )
      ∙ take-append_seam content rest

pub sized_was_written : (blob : List ℕ) (i : ℕ) → Bytes blob → i + 2 + word blob i 2 ≤ length blob → take (i + 2 + word blob i 2) blob ≡ take i blob ++ sized_bytes (take (word blob i 2) (drop (i + 2) blob))
sized_was_written blob i b h =
    let n : ℕ = word blob i 2 in
    let there : n ≤ length (drop (i + 2) blob) = simp length-drop (omega arith) in
    let l : length (take n (drop (i + 2) blob)) ≡ n = length-take-le n (drop (i + 2) blob) there in
    take-add (i + 2) n blob
    ∙ ap (λ (xs : List ℕ). xs ++ take n (drop (i + 2) blob)) (take-add i 2 blob)
    ∙ append_assoc (take i blob) (take 2 (drop i blob)) (take n (drop (i + 2) blob))
    ∙ ap (λ (xs : List ℕ). take i blob ++ (xs ++ take n (drop (i + 2) blob))) (sym (number_word blob i 2 b (omega arith)))
    ∙ ap (λ (k : ℕ). take i blob ++ (number_bytes 2 k ++ take n (drop (i + 2) blob))) (sym l)
