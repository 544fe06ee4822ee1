-- Plain blocks: what is written is read back, and what is read was written. Assumes nothing.
use Rattle.std.specs.Prelude.{◌≡◌, ℕ, ◌+◌, ◌≤◌, ◌&&◌, List, ◌++◌, length, take, drop, Some, Option, nat_le, slice_index}
use Rattle.std.proofs.Common.{append_assoc, sym, ap, subst, ◌∙◌, arith, length-append, length-drop, length-take-le}
use Rattle.std.proofs.Math.Seq.{take-append_seam}
use Rattle.std.proofs.lemmas.Bool.{and_parts, le-leb, leb-true}
use Rattle.std.proofs.lemmas.Option.{cond_some}
use Rattle.register.specs.Words.{word}
use Rattle.block.proofs.Behind.{alone_from}
use Rattle.block.proofs.Fronts.{context_in_front, front_form, front_holds, head_context, length-head, parent_in_front}
use Rattle.block.proofs.Numbers.{word_low}
use Rattle.block.proofs.Sizes.{length_sized, sized_length, sized_was_written}
use Rattle.block.specs.Readings.{context_in}
use Rattle.block.specs.Heads.{head_length}
use Rattle.block.specs.Readings.{Alone}
use Rattle.block.specs.Written.{Bytes, head_bytes, sized_bytes}
use Rattle.block.specs.declared.kind.Reading.{Reading}
use Rattle.plain.specs.Exact.{PlainForm, PlainHolds, plain_bytes, plain_reading}
use Rattle.plain.specs.Plains.{payload_from, plain_length, plain_reads}

module _ (digest : List ℕ → List ℕ) (context parent : List ℕ) (height : ℕ) (payload rest : List ℕ) (h : PlainHolds context parent height payload) where
  abbrev head : List ℕ
  head = head_bytes context parent height

  abbrev block : List ℕ
  block = plain_bytes context parent height payload

  abbrev blob : List ℕ
  blob = block ++ rest

  read_length : plain_length blob ≡ length block
  read_length =
      let l : length head ≡ length context + 41 = length-head context parent height h.head in
      let w : word blob (length context + 41) 2 ≡ length payload =
      ap (λ (i : ℕ). word blob i 2) (sym l)
      ∙ ap (λ (xs : List ℕ). word xs (length head) 2) (append_assoc head (sized_bytes payload) rest)
      ∙ sized_length head payload rest h.payload_short in
      omega (arith, length-append head (sized_bytes payload), length_sized payload)

  pub read_back : plain_reads digest blob ≡ Some (plain_reading digest context parent height payload)
  read_back =
      let there : plain_length blob ≤ length blob = omega (arith, length-append block rest, read_length) in
      let front : payload_from blob ≤ length blob = omega arith in
      let read : ℕ → List ℕ → Option Reading = λ n xs. Some (record { len = n; context_from = 1; context_len = length context; digest = digest xs }) in
      let same : read (plain_length blob) (take (plain_length blob) blob) ≡ read (length block) block = ap (λ (n : ℕ). read n (take n blob)) read_length ∙ ap (read (length block)) (take-append_seam block rest) in
      simp (le-leb (payload_from blob) (length blob) front, le-leb (plain_length blob) (length blob) there) same

  pub found : context_in blob (plain_reading digest context parent height payload) ≡ context
  found =
      ap (λ (xs : List ℕ). take (length context) (drop 1 xs)) (append_assoc head (sized_bytes payload) rest)
      ∙ head_context context parent height (sized_bytes payload ++ rest)

pub was_written : (digest : List ℕ → List ℕ) (blob : List ℕ) (r : Reading) → Bytes blob → plain_reads digest blob ≡ Some r → PlainForm blob r.len
was_written digest blob r b e =
    let f = cond_some (nat_le (payload_from blob) (length blob) && nat_le (plain_length blob) (length blob)) _ r e in
    let all : plain_length blob ≤ length blob = leb-true (plain_length blob) (length blob) (and_parts (nat_le (payload_from blob) (length blob)) _ f.0).1 in
    let long : head_length blob ≤ length blob = omega arith in
    let size : ℕ = word blob (head_length blob) 2 in
    let rest : size ≤ length (drop (payload_from blob) blob) = simp length-drop (omega arith) in
    let l : length (take size (drop (payload_from blob) blob)) ≡ size = length-take-le size (drop (payload_from blob) blob) rest in
    subst (λ (q : Reading). PlainForm blob q.len) f.1 (record {
      context = context_in_front blob b long;
      parent = parent_in_front blob b long;
      height = word blob (slice_index blob 0 + 33) 8;
      payload = take size (drop (payload_from blob) blob);
      holds = record {
        head = front_holds blob b long;
        payload_short = rw l (word_low blob (head_length blob) 2 b);
      };
      form =
          sized_was_written blob (head_length blob) b all
          ∙ ap (λ (xs : List ℕ). xs ++ sized_bytes (take size (drop (payload_from blob) blob))) (front_form blob b long);
    })

pub alone : (digest : List ℕ → List ℕ) → Alone (plain_reads digest)
alone digest blob rest r b e =
    let f = was_written digest blob r b e in
    alone_from (plain_reads digest) blob (plain_bytes f.context f.parent f.height f.payload) rest r.len _ (Some r) f.form
    (λ any. read_back digest f.context f.parent f.height f.payload any f.holds)
    e
