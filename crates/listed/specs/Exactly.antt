-- Listed blocks: what is written is read back, and what is read was written. Assumes nothing.
use Rattle.std.specs.Prelude.{◌≡◌, ℕ, zero, suc, ◌+◌, ◌^◌, ◌<◌, ◌≤◌, ◌&&◌, List, [], ◌∷◌, ◌++◌, length, take, drop, Some, None, fold, Option, nat_le, slice_index, refl}
use Rattle.std.proofs.Common.{append_assoc, sym, ap, subst, ◌∙◌, arith, lit<, length-append, length-drop, length-take-le, take-add}
use Rattle.std.proofs.Math.Seq.{take-append_seam}
use Rattle.std.proofs.lemmas.List.{append-nil}
use Rattle.std.proofs.lemmas.Bool.{and_parts, le-leb, leb-true}
use Rattle.std.proofs.lemmas.Option.{cond_some}
use Rattle.std.specs.Option.{option_and_then, option_map}
use Rattle.std.specs.List.{flat_map}
use Rattle.register.specs.Words.{word}
use Rattle.block.proofs.Behind.{alone_from}
use Rattle.block.proofs.Fronts.{context_in_front, front_form, front_holds, head_context, length-head, parent_in_front}
use Rattle.block.proofs.Numbers.{length_number, number_word, word_behind, word_low}
use Rattle.block.proofs.Sizes.{length_sized, sized_content, sized_length, sized_was_written}
use Rattle.block.proofs.Told.{mapped_from}
use Rattle.block.specs.Readings.{context_in}
use Rattle.block.specs.Heads.{head_length}
use Rattle.block.specs.Readings.{Alone}
use Rattle.block.specs.Written.{Bytes, head_bytes, number_bytes, sized_bytes}
use Rattle.block.specs.declared.kind.Reading.{Reading}
use Rattle.listed.specs.Exact.{EntriesShort, ListedForm, ListedHolds, listed_bytes, listed_digest, listed_reading}
use Rattle.listed.specs.Listeds.{entry_walked, listed_ends, listed_reads, walk_start, walked}
use Rattle.listed.specs.declared.walk.Walk.{Walk}

module _ (digest : List ℕ → List ℕ) where
  abbrev walk_at : ℕ → List ℕ → Walk
  walk_at i d = record { at = i; digest = d }

  abbrev taking : List ℕ → List ℕ → List ℕ
  taking so_far content = digest (so_far ++ content)

  -- past a written entry
  entry_read : (front content rest d : List ℕ) → length content < 2 ^ 16 → entry_walked digest (front ++ (sized_bytes content ++ rest)) (walk_at (length front) d) ≡ Some (walk_at (length (front ++ sized_bytes content)) (taking d content))
  entry_read front content rest d h =
      let blob : List ℕ = front ++ (sized_bytes content ++ rest) in
      let w : word blob (length front) 2 ≡ length content = sized_length front content rest h in
      let long : length blob ≡ length front + (2 + length content + length rest) =
      length-append front (sized_bytes content ++ rest)
      ∙ ap (λ (k : ℕ). length front + k) (length-append (sized_bytes content) rest ∙ ap (λ (k : ℕ). k + length rest) (length_sized content)) in
      let one : length front + 2 ≤ length blob = omega arith in
      let two : length front + 2 + length content ≤ length blob = omega arith in
      let past : length (front ++ sized_bytes content) ≡ length front + 2 + length content = omega (arith, length-append front (sized_bytes content), length_sized content) in
      simp (le-leb (length front + 2) (length blob) one, w, le-leb (length front + 2 + length content) (length blob) two, past, sized_content front content rest)

  -- past all of them
  entries_read : (entries : List (List ℕ)) (front rest d : List ℕ) → EntriesShort entries → walked digest (front ++ (flat_map sized_bytes entries ++ rest)) (length entries) (walk_at (length front) d) ≡ Some (walk_at (length (front ++ flat_map sized_bytes entries)) (fold taking d entries))
  entries_read [] front rest d h = simp append-nil
  entries_read (x ∷ xs) front rest d h =
      let more : List ℕ = flat_map sized_bytes xs in
      let here : front ++ (sized_bytes x ++ more ++ rest) ≡ front ++ (sized_bytes x ++ (more ++ rest)) = ap (λ (ys : List ℕ). front ++ ys) (append_assoc (sized_bytes x) more rest) in
      let next : front ++ (sized_bytes x ++ (more ++ rest)) ≡ front ++ sized_bytes x ++ (more ++ rest) = sym (append_assoc front (sized_bytes x) (more ++ rest)) in
      let over : Walk = walk_at (length (front ++ sized_bytes x)) (taking d x) in
      ap (λ (blob : List ℕ). walked digest blob (suc (length xs)) (walk_at (length front) d)) here
      ∙ ap (option_and_then (walked digest (front ++ (sized_bytes x ++ (more ++ rest))) (length xs))) (entry_read front x (more ++ rest) d (h 0))
      ∙ ap (λ (blob : List ℕ). walked digest blob (length xs) over) next
      ∙ entries_read xs (front ++ sized_bytes x) rest (taking d x) (λ i. h (suc i))
      ∙ ap (λ (ys : List ℕ). Some (walk_at (length ys) (fold taking d (x ∷ xs)))) (append_assoc front (sized_bytes x) more)

module _ (digest : List ℕ → List ℕ) (context parent : List ℕ) (height : ℕ) (entries : List (List ℕ)) (rest : List ℕ) (h : ListedHolds context parent height entries) where
  abbrev head : List ℕ
  head = head_bytes context parent height

  abbrev count : List ℕ
  count = number_bytes 2 (length entries)

  abbrev body : List ℕ
  body = flat_map sized_bytes entries

  abbrev block : List ℕ
  block = listed_bytes context parent height entries

  abbrev blob : List ℕ
  blob = block ++ rest

  shape : blob ≡ head ++ (count ++ (body ++ rest))
  shape = append_assoc head (count ++ body) rest ∙ ap (λ (ys : List ℕ). head ++ ys) (append_assoc count body rest)

  length_front : length head ≡ length context + 41
  length_front = length-head context parent height h.head

  read_count : word blob (head_length blob) 2 ≡ length entries
  read_count =
      ap (λ (i : ℕ). word blob i 2) (sym length_front)
      ∙ ap (λ (xs : List ℕ). word xs (length head) 2) shape
      ∙ word_behind head 2 (length entries) (body ++ rest) h.few

  -- the walk begins behind the count
  read_start : walk_start digest blob ≡ walk_at digest (length (head ++ count)) (digest head)
  read_start =
      let i : length context + 41 + 2 ≡ length (head ++ count) = omega (arith, length-append head count, length_front, length_number 2 (length entries)) in
      let d : take (length context + 41) blob ≡ head =
      ap (λ (k : ℕ). take k blob) (sym length_front) ∙ ap (take (length head)) shape ∙ take-append_seam head (count ++ (body ++ rest)) in
      ap (λ (k : ℕ). walk_at digest k (digest (take (length context + 41) blob))) i
      ∙ ap (λ (xs : List ℕ). walk_at digest (length (head ++ count)) (digest xs)) d

  read_entries : walked digest blob (word blob (head_length blob) 2) (walk_start digest blob) ≡ Some (walk_at digest (length block) (listed_digest digest context parent height entries))
  read_entries =
      ap (λ (n : ℕ). walked digest blob n (walk_start digest blob)) read_count
      ∙ ap (walked digest blob (length entries)) read_start
      ∙ ap (λ (xs : List ℕ). walked digest xs (length entries) (walk_at digest (length (head ++ count)) (digest head))) (shape ∙ sym (append_assoc head count (body ++ rest)))
      ∙ entries_read digest entries (head ++ count) rest (digest head) h.short
      ∙ ap (λ (xs : List ℕ). Some (walk_at digest (length xs) (listed_digest digest context parent height entries))) (append_assoc head count body)

  pub read_back : listed_reads digest blob ≡ Some (listed_reading digest context parent height entries)
  read_back =
      let long : length blob ≡ length head + (2 + length (body ++ rest)) =
      ap length shape ∙ length-append head (count ++ (body ++ rest))
      ∙ ap (λ (k : ℕ). length head + k) (length-append count (body ++ rest) ∙ ap (λ (k : ℕ). k + length (body ++ rest)) (length_number 2 (length entries))) in
      let there : head_length blob + 2 ≤ length blob = omega (arith, length_front) in
      simp (le-leb (head_length blob + 2) (length blob) there) (ap (option_map (listed_ends blob)) read_entries)

  pub found : context_in blob (listed_reading digest context parent height entries) ≡ context
  found =
      ap (λ (xs : List ℕ). take (length context) (drop 1 xs)) shape
      ∙ head_context context parent height (count ++ (body ++ rest))

-- a walk of n entries has gone past the written form of as many
record Run (blob : List ℕ) (n i j : ℕ) : Type 0 where
  entries : List (List ℕ)
  many : length entries ≡ n
  short : EntriesShort entries
  form : take j blob ≡ take i blob ++ flat_map sized_bytes entries

module _ (digest : List ℕ → List ℕ) (blob : List ℕ) (b : Bytes blob) where
  -- one entry more in front
  first : (n : ℕ) (w u v : Walk) → entry_walked digest blob w ≡ Some u → Run blob n u.at v.at → Run blob (suc n) w.at v.at
  first n w u v e run =
      let size : ℕ = word blob w.at 2 in
      let f = cond_some (nat_le (w.at + 2) (length blob) && nat_le (w.at + 2 + size) (length blob)) _ u e in
      let there : w.at + 2 + size ≤ length blob = leb-true (w.at + 2 + size) (length blob) (and_parts (nat_le (w.at + 2) (length blob)) _ f.0).1 in
      let content : List ℕ = take size (drop (w.at + 2) blob) in
      let rest : size ≤ length (drop (w.at + 2) blob) = simp length-drop (omega arith) in
      let l : length content ≡ size = length-take-le size (drop (w.at + 2) blob) rest in
      let at : u.at ≡ w.at + 2 + size = ap (λ (x : Walk). x.at) (sym f.1) in
      record {
        entries = content ∷ run.entries;
        many = ap suc run.many;
        short = elim [ zero ↦ rw l (word_low blob w.at 2 b) | suc i ↦ run.short i ];
        form =
            run.form
            ∙ ap (λ (k : ℕ). take k blob ++ flat_map sized_bytes run.entries) at
            ∙ ap (λ (xs : List ℕ). xs ++ flat_map sized_bytes run.entries) (sized_was_written blob w.at b there)
            ∙ append_assoc (take w.at blob) (sized_bytes content) (flat_map sized_bytes run.entries);
      }

  onward_run : (n : ℕ) (w v : Walk) (o : Option Walk) → ((u : Walk) → walked digest blob n u ≡ Some v → Run blob n u.at v.at) → entry_walked digest blob w ≡ o → option_and_then (walked digest blob n) o ≡ Some v → Run blob (suc n) w.at v.at
  onward_run n w v None more e h = cc
  onward_run n w v (Some u) more e h = first n w u v e (more u h)

  walked_run : (n : ℕ) (w v : Walk) → walked digest blob n w ≡ Some v → Run blob n w.at v.at
  walked_run zero w v e =
      let same : w ≡ v = cc in
      record {
        entries = [];
        many = refl;
        short = λ i. lit< tt;
        form = ap (λ (x : Walk). take x.at blob) (sym same) ∙ sym (append-nil (take w.at blob));
      }
  walked_run (suc n) w v e =
      onward_run n w v (entry_walked digest blob w) (λ u. walked_run n u v) refl e

  -- a run behind the count is the written form behind the head
  run_form : (long : head_length blob ≤ length blob) (j : ℕ) (run : Run blob (word blob (head_length blob) 2) (head_length blob + 2) j) → head_length blob + 2 ≤ length blob → take j blob ≡ listed_bytes (context_in_front blob b long) (parent_in_front blob b long) (word blob (slice_index blob 0 + 33) 8) run.entries
  run_form long j run there =
      let front : List ℕ = take (head_length blob) blob in
      let count : take 2 (drop (head_length blob) blob) ≡ number_bytes 2 (length run.entries) = sym (number_word blob (head_length blob) 2 b there) ∙ ap (number_bytes 2) (sym run.many) in
      let two : take (head_length blob + 2) blob ≡ front ++ number_bytes 2 (length run.entries) = take-add (head_length blob) 2 blob ∙ ap (λ (xs : List ℕ). front ++ xs) count in
      let body : List ℕ = flat_map sized_bytes run.entries in
      let all : take j blob ≡ front ++ (number_bytes 2 (length run.entries) ++ body) = run.form ∙ ap (λ (xs : List ℕ). xs ++ body) two ∙ append_assoc front (number_bytes 2 (length run.entries)) body in
      all ∙ ap (λ (xs : List ℕ). xs ++ (number_bytes 2 (length run.entries) ++ body)) (front_form blob b long)

  pub was_written : (r : Reading) → listed_reads digest blob ≡ Some r → ListedForm blob r.len
  was_written r e =
      let m = mapped_from (nat_le (head_length blob + 2) (length blob)) (listed_ends blob) (walked digest blob (word blob (head_length blob) 2) (walk_start digest blob)) r e in
      let there : head_length blob + 2 ≤ length blob = leb-true (head_length blob + 2) (length blob) m.0 in
      let long : head_length blob ≤ length blob = omega arith in
      let run = walked_run (word blob (head_length blob) 2) (walk_start digest blob) m.1.0 m.1.1 in
      subst (λ (q : Reading). ListedForm blob q.len) m.1.2 (record {
        context = context_in_front blob b long;
        parent = parent_in_front blob b long;
        height = word blob (slice_index blob 0 + 33) 8;
        entries = run.entries;
        holds = record {
          head = front_holds blob b long;
          few = rw run.many (word_low blob (head_length blob) 2 b);
          short = run.short;
        };
        form = run_form long m.1.0.at run there;
      })

pub alone : (digest : List ℕ → List ℕ) → Alone (listed_reads digest)
alone digest blob rest r b e =
    let f = was_written digest blob b r e in
    alone_from (listed_reads digest) blob (listed_bytes f.context f.parent f.height f.entries) rest r.len _ (Some r) f.form
    (λ any. read_back digest f.context f.parent f.height f.entries any f.holds)
    e
