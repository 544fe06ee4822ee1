-- A job that starts: the record's counts alone change, and mean what the model's job takes.
use Rattle.std.proofs.Common.{◌≡◌, ℕ, ◌+◌, ◌-◌, ◌<◌, ◌≤◌, Bool, true, false, leb, List, [], map, length, take, drop, Some, Option, sym, refl, ap, ◌∙◌, arith, drop_of_length-le, length-take, take-take, le-leb}
use borrow.Author.Tests.{lt-leb}
use Rattle.std.proofs.lemmas.List.{take-map, drop-map, length-map}
use Rattle.std.proofs.lemmas.List.Sums.{count_by-le-length}
use Rattle.scheme.specs.Pieces.{Indexed}
use Rattle.model.specs.Jobs.{tried_in, tried_with}
use Rattle.model.specs.State.{Job, Phase, awaiting, Sent, Shards, with_phase}
use Rattle.record.specs.Sound.{Sound}
use Rattle.record.specs.Fields.{started}
use Rattle.record.specs.Views.{Memory, job_of, phase_of, sent_in, shard_in, shards_of, view}
use Rattle.record.specs.declared.record.Record.{Record}

module _ {X Y : Type 0} (f : X → Y) (xs : List X) where
  pub length_front : (n : ℕ) → n ≤ length xs → length (map f (take n xs)) ≡ n
  length_front n h = simp (length-map, length-take) (omega arith)

  pub none_left : (n : ℕ) → map f (drop n (take n xs)) ≡ []
  none_left n = let h : length (take n xs) ≤ n = simp length-take (omega arith) in ap (map f) (drop_of_length-le (take n xs) h)

  pub front-taken : (k n : ℕ) → k ≤ n → take k (map f (drop 0 (take n xs))) ≡ map f (take k xs)
  front-taken k n h = take-map f k (take n xs) ∙ ap (map f) (take-take k n xs h)

pub same_shards : {a b c d : List Indexed} {p q : List Sent} {j k : Option Job} → a ≡ b → c ≡ d → p ≡ q → j ≡ k →
    ◌≡◌ {A = Shards} (record { received = a; checked = c; pending = p; job = j }) (record { received = b; checked = d; pending = q; job = k })
same_shards x y z w = cc

pub same_job : {c d : List Indexed} {p q : List Sent} → c ≡ d → p ≡ q → ◌≡◌ {A = Option Job} (Some (record { checked = c; pending = p })) (Some (record { checked = d; pending = q }))
same_job x y = cc

module _ (at : Memory) (slot minimum width : ℕ) (r : Record) (s : Sound width r) (idle : r.job ≡ false) where
  taken_none : r.job_checked ≡ 0
  taken_none = (s.no_job idle).0

  sent_none : r.job_pending ≡ 0
  sent_none = (s.no_job idle).1

  checked_length : length (map (shard_in at slot) (take r.checked_count r.checked)) ≡ r.checked_count
  checked_length = length_front (shard_in at slot) r.checked r.checked_count (omega (arith, s.used, s.flags, s.checked_room, count_by-le-length (λ (b : Bool). b) r.contributed))

  sent_length : length (map (sent_in at slot) (take r.pending_count r.pending)) ≡ r.pending_count
  sent_length = length_front (sent_in at slot) r.pending r.pending_count (omega (arith, s.used, s.flags, s.pending_room, count_by-le-length (λ (b : Bool). b) r.contributed))

  pub starts : minimum ≤ r.checked_count + r.pending_count → shards_of at slot (started minimum r) ≡ tried_with minimum (job_of at slot r) (shards_of at slot r)
  starts h =
      let t : leb minimum (r.checked_count + r.pending_count) ≡ true = le-leb minimum (r.checked_count + r.pending_count) h in
      simp (idle, taken_none, sent_none, checked_length, sent_length, t) (same_shards refl (none_left (shard_in at slot) r.checked r.checked_count) (sym (drop-map (sent_in at slot) (minimum - r.checked_count) (take r.pending_count r.pending))) (same_job refl (sym (front-taken (sent_in at slot) r.pending (minimum - r.checked_count) r.pending_count (omega arith)))))

  -- too few shards: nothing starts
  pub stays : r.checked_count + r.pending_count < minimum → shards_of at slot r ≡ tried_with minimum (job_of at slot r) (shards_of at slot r)
  stays h =
      let t : leb minimum (r.checked_count + r.pending_count) ≡ false = lt-leb minimum (r.checked_count + r.pending_count) h in
      simp (idle, taken_none, sent_none, checked_length, sent_length, t) refl

module _ (at : Memory) (c : List ℕ) (slot minimum width : ℕ) (r : Record) (s : Sound width r) where
  same_phase : (p : Phase) → phase_of at slot r ≡ p → view at c slot r ≡ with_phase p (view at c slot r)
  same_phase p e = ap (λ q. with_phase q (view at c slot r)) e

  pub nothing_cached : r.cached ≡ true → view at c slot r ≡ with_phase (tried_in minimum (phase_of at slot r)) (view at c slot r)
  nothing_cached e = same_phase _ (simp e refl)

  pub nothing_out : r.cached ≡ false → r.job ≡ true → view at c slot r ≡ with_phase (tried_in minimum (phase_of at slot r)) (view at c slot r)
  nothing_out e j = same_phase _ (simp (e, j) refl)

  pub nothing_few : r.cached ≡ false → r.job ≡ false → r.checked_count + r.pending_count < minimum → view at c slot r ≡ with_phase (tried_in minimum (phase_of at slot r)) (view at c slot r)
  nothing_few e j h = same_phase _ (simp e (ap awaiting (stays at slot minimum width r s j h)))

  pub job_starts : r.cached ≡ false → r.job ≡ false → minimum ≤ r.checked_count + r.pending_count → view at c slot (started minimum r) ≡ with_phase (tried_in minimum (phase_of at slot r)) (view at c slot r)
  job_starts e j h = ap (λ q. with_phase q (view at c slot r)) phases
    where
      phases : phase_of at slot (started minimum r) ≡ tried_in minimum (phase_of at slot r)
      phases = simp e (ap awaiting (starts at slot minimum width r s j h))

pub started-sound : (minimum width : ℕ) (r : Record) → Sound width r → minimum ≤ r.checked_count + r.pending_count → Sound width (started minimum r)
started-sound minimum width r s h = record { flags = s.flags; received_room = s.received_room; checked_room = s.checked_room; pending_room = s.pending_room; received = s.received; used = s.used; job_checked = omega arith; job_pending = omega arith; no_job = λ e. absurd (let z : ◌≡◌ {A = ℕ} 0 1 = cc in omega arith); received_lie = s.received_lie; checked_lie = s.checked_lie; pending_lie = s.pending_lie }
