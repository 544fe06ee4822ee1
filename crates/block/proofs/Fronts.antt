-- Heads: what is written is read back, and what is read was written. Assumes nothing.
use Rattle.std.proofs.Common.{◌≡◌, ℕ, ◌+◌, ◌<◌, ◌≤◌, leb, List, [], ◌∷◌, ◌++◌, length, get_or, take, drop, Some, sym, ap, ◌∙◌, subst, append_assoc, arith, length-append, length-drop, length-take-le, take-suc, take-add}
use Rattle.std.proofs.Math.Seq.{take-append_seam}
use Rattle.std.proofs.lemmas.Bool.{le-leb, leb-true}
use Rattle.register.specs.Words.{word}
use Rattle.block.specs.declared.head.Head.{Head}
use Rattle.block.specs.Exact.{HeadForm}
use Rattle.block.specs.Heads.{head_length, head_of}
use Rattle.block.specs.Written.{Bytes, HeadHolds, head_bytes, number_bytes}
use Rattle.std.proofs.lemmas.Option.{cond_some}
use Rattle.block.proofs.Numbers.{length_number, number_word, word_behind, word_low}

pub head_context : (context parent : List ℕ) (height : ℕ) (rest : List ℕ) → take (length context) (drop 1 (head_bytes context parent height ++ rest)) ≡ context
head_context context parent height rest =
    ap (take (length context)) (append_assoc (context ++ parent) (number_bytes 8 height) rest ∙ append_assoc context parent (number_bytes 8 height ++ rest))
    ∙ take-append_seam context (parent ++ (number_bytes 8 height ++ rest))

module _ (context parent : List ℕ) (height : ℕ) (h : HeadHolds context parent height) where
  pub length-head : length (head_bytes context parent height) ≡ length context + 41
  length-head =
      let p = h.parent_long in
      simp (length-append, length_number, h.parent_long) (omega arith)

  -- the head in front of a list, as its reader sees it
  pub head_read : (rest : List ℕ) → head_of (head_bytes context parent height ++ rest) ≡ Some (record { context_len = length context; height = record { 0 = height } })
  head_read rest =
      let front : List ℕ = length context ∷ context ++ parent in
      let there : length context + 41 ≤ length (head_bytes context parent height ++ rest) = omega (arith, length-append (head_bytes context parent height) rest, length-head) in
      let at : length front ≡ length context + 33 = simp (length-append, h.parent_long) (omega arith) in
      let w : word (head_bytes context parent height ++ rest) (length context + 33) 8 ≡ height =
      ap (λ (xs : List ℕ). word xs (length context + 33) 8) (append_assoc front (number_bytes 8 height) rest)
      ∙ ap (λ (i : ℕ). word (front ++ (number_bytes 8 height ++ rest)) i 8) (sym at)
      ∙ word_behind front 8 height rest h.height_low in
      simp (le-leb (length context + 41) (length (head_bytes context parent height ++ rest)) there, w)

module _ (blob : List ℕ) (b : Bytes blob) (long : head_length blob ≤ length blob) where
  pub context_in_front : List ℕ
  context_in_front = take (get_or blob 0 0) (drop 1 blob)

  pub parent_in_front : List ℕ
  parent_in_front = take 32 (drop (1 + get_or blob 0 0) blob)

  length_context : length context_in_front ≡ get_or blob 0 0
  unfolding context_in_front
  length_context =
      let m : get_or blob 0 0 ≤ length (drop 1 blob) = simp length-drop (omega arith) in
      length-take-le (get_or blob 0 0) (drop 1 blob) m

  pub front_holds : HeadHolds context_in_front parent_in_front (word blob (get_or blob 0 0 + 33) 8)
  unfolding parent_in_front
  front_holds =
      let m : 32 ≤ length (drop (1 + get_or blob 0 0) blob) = simp length-drop (omega arith) in
      record {
        context_short = rw length_context (b 0);
        parent_long = length-take-le 32 (drop (1 + get_or blob 0 0) blob) m;
        height_low = word_low blob (get_or blob 0 0 + 33) 8 b;
      }

  pub front_form : take (head_length blob) blob ≡ head_bytes context_in_front parent_in_front (word blob (get_or blob 0 0 + 33) 8)
  unfolding context_in_front parent_in_front
  front_form =
      let n : ℕ = get_or blob 0 0 in
      let e : n + 41 ≡ 1 + n + 32 + 8 = omega arith in
      let i : 1 + n + 32 ≡ n + 33 = omega arith in
      let some : 0 < length blob = omega arith in
      let l : length (take n (drop 1 blob)) ≡ n = length_context in
      let first : take 1 blob ≡ length (take n (drop 1 blob)) ∷ [] = take-suc blob 0 0 some ∙ ap (λ (k : ℕ). k ∷ []) (sym l) in
      let last : take 8 (drop (1 + n + 32) blob) ≡ number_bytes 8 (word blob (n + 33) 8) =
      ap (λ (j : ℕ). take 8 (drop j blob)) i ∙ sym (number_word blob (n + 33) 8 b (omega arith)) in
      ap (λ (k : ℕ). take k blob) e
      ∙ take-add (1 + n + 32) 8 blob
      ∙ ap (λ (xs : List ℕ). xs ++ take 8 (drop (1 + n + 32) blob)) (take-add (1 + n) 32 blob)
      ∙ ap (λ (xs : List ℕ). xs ++ take 32 (drop (1 + n) blob) ++ take 8 (drop (1 + n + 32) blob)) (take-add 1 n blob)
      ∙ ap (λ (xs : List ℕ). xs ++ take n (drop 1 blob) ++ take 32 (drop (1 + n) blob) ++ take 8 (drop (1 + n + 32) blob)) first
      ∙ ap (λ (xs : List ℕ). length (take n (drop 1 blob)) ∷ take n (drop 1 blob) ++ take 32 (drop (1 + n) blob) ++ xs) last

pub head-written : (blob : List ℕ) (h : Head) → Bytes blob → head_of blob ≡ Some h → HeadForm blob h
head-written blob h b e =
    let f = cond_some (leb (head_length blob) (length blob)) _ h e in
    let long : head_length blob ≤ length blob = leb-true (head_length blob) (length blob) f.0 in
    subst (HeadForm blob) f.1 (record {
      context = context_in_front blob b long;
      parent = parent_in_front blob b long;
      holds = front_holds blob b long;
      form = front_form blob b long;
    })
