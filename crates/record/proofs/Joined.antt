-- A record that has kept a shard means what the model's record means that waits for it or has checked it.
use Rattle.std.proofs.Common.{◌≡◌, ℕ, ◌+◌, ◌<◌, ◌≤◌, Bool, true, false, cond, List, [], ◌∷◌, ◌++◌, map, length, take, drop, set, None, sym, ap, ◌∙◌, subst, arith, length-set, take-append-drop, length-take, get_or-set_same, take-take}
use Rattle.std.proofs.lemmas.List.{drop-append-le, drop-map, map-append, take-map, take-set-le, take_more_set}
use Rattle.std.proofs.lemmas.List.Elements.{All-append, All-drop, All-push, All-take, All-weaker}
use Rattle.std.specs.Ordering.{nat_cmp}
use Rattle.std.specs.List.{All}
use Rattle.places.specs.Places.{held}
use Rattle.register.specs.Order.{order}
use Rattle.register.specs.declared.key.Key.{Key}
use Rattle.scheme.specs.Pieces.{Indexed}
use Rattle.model.specs.Intake.{index_of, sender_of}
use Rattle.model.specs.Intake as model
use Rattle.model.specs.State.{awaiting, with_contribution}
use Rattle.table.specs.Table.{put}
use Rattle.record.specs.Fields.{by_index, by_sender, index_named, sender_named, with_checked, with_pending, with_received, with_verified}
use Rattle.record.specs.Joins.{OpenTo, queued}
use Rattle.record.specs.Sound.{Lies, Sound, contributions}
use Rattle.record.specs.Views.{Memory, memory, phase_of, place_of, sent_in, shard_in, shards_of, view}
use Rattle.record.specs.declared.record.Record.{Record}
use Rattle.record.specs.declared.stored.Pending.{Pending}
use Rattle.record.specs.declared.stored.Stored.{Stored}
use Rattle.record.proofs.Counting.{contributions_more, room_checked}
use Rattle.record.proofs.Joining.{all_put, lies_still, map_alike, sent_put, sent_still, still_counted, stored_put}
use Rattle.record.proofs.Starting.{same_job, same_shards}

-- the parts of a list with another meaning alike
module _ {X Y : Type 0} (f g : X → Y) (n : ℕ) (xs : List X) (alike : map f (take n xs) ≡ map g (take n xs)) where
  pub rest_alike : (a : ℕ) → map f (drop a (take n xs)) ≡ map g (drop a (take n xs))
  rest_alike a = sym (drop-map f a (take n xs)) ∙ ap (drop a) alike ∙ drop-map g a (take n xs)

  pub front_alike : (a : ℕ) → a ≤ n → map f (take a xs) ≡ map g (take a xs)
  front_alike a h =
      ap (map f) (sym (take-take a n xs h)) ∙ sym (take-map f a (take n xs)) ∙ ap (take a) alike ∙ take-map g a (take n xs) ∙ ap (map g) (take-take a n xs h)

module _ (width i : ℕ) (bytes : List ℕ) (r : Record) (o : OpenTo width r i bytes) where
  abbrev flags : List Bool
  flags = set r.contributed i true

  reach : i < length r.contributed
  reach = omega (arith, o.within, o.sound.flags)

  flags_long : length flags ≡ 64
  flags_long = length-set r.contributed i true ∙ o.sound.flags

  more : contributions flags ≡ contributions r.contributed + 1
  more = contributions_more r.contributed i reach o.fresh

  -- what lay with the flags as they were lies with one more
  lies_more : (s : Stored) → Lies width r.contributed s → Lies width flags s
  lies_more s l = record { within = l.within; short = l.short; counted = still_counted r.contributed i s.index.0 reach l.counted }

  stored_lie : (xs : List Stored) → All (Lies width r.contributed) xs → All (Lies width flags) xs
  stored_lie = All-weaker (Lies width r.contributed) (Lies width flags) lies_more

  sent_lie : All (λ p. Lies width flags p.shard) (take r.pending_count r.pending)
  sent_lie = All-weaker (λ p. Lies width r.contributed p.shard) (λ p. Lies width flags p.shard) (λ p. lies_more p.shard) (take r.pending_count r.pending) o.sound.pending_lie

  -- an assigned shard that comes after the block: it is not kept, and has contributed all the same
  abbrev late : Record
  late = with_verified (with_received r.received r.received_count flags r)

  pub late_view : (at : Memory) (c : List ℕ) (slot : ℕ) (s : Indexed) → r.cached ≡ true → view at c slot late ≡ with_contribution flags true (model.joined s (phase_of at slot r)) (view at c slot r)
  late_view at c slot s e = ap (λ p. with_contribution flags true p (view at c slot r)) (simp e)

  pub late_sound : Sound width late
  late_sound =
      record {
        flags = flags_long;
        received_room = o.sound.received_room;
        checked_room = o.sound.checked_room;
        pending_room = o.sound.pending_room;
        received = omega (arith, o.sound.received, more);
        used = omega (arith, o.sound.used, more);
        job_checked = o.sound.job_checked;
        job_pending = o.sound.job_pending;
        no_job = o.sound.no_job;
        received_lie = stored_lie (take r.received_count r.received) o.sound.received_lie;
        checked_lie = stored_lie (take r.checked_count r.checked) o.sound.checked_lie;
        pending_lie = sent_lie;
      }

  -- one that is kept in a slot
  module _ (slot : ℕ) (shards after : List ℕ) (size : ℕ) (blobs : List ℕ)
      (written : held width (place_of slot i) (length bytes) after ≡ bytes)
      (others : (other n : ℕ) → (other ≡ place_of slot i → ⊥) → n ≤ width → held width other n after ≡ held width other n shards) where
    abbrev at : Memory
    at = memory width shards size blobs

    abbrev new : Memory
    new = memory width after size blobs

    abbrev stored : Stored
    stored = record { index = record { 0 = i }; len = length bytes }

    abbrev shard : Indexed
    shard = record { index = i; bytes = bytes }

    shard_is : shard_in new slot stored ≡ shard
    shard_is = ap (λ b. record { index = i; bytes = b }) written

    still : (s : Stored) → Lies width r.contributed s → shard_in new slot s ≡ shard_in at slot s
    still = lies_still width slot i shards after size blobs r.contributed o.fresh others

    still_sent : (p : Pending) → Lies width r.contributed p.shard → sent_in new slot p ≡ sent_in at slot p
    still_sent = sent_still width slot i shards after size blobs r.contributed o.fresh others

    received_is : (n : ℕ) (R : List Stored) → take n R ≡ put by_index index_named stored (take r.received_count r.received) → map (shard_in new slot) (take n R) ≡ put nat_cmp index_of shard (map (shard_in at slot) (take r.received_count r.received))
    received_is n R t =
        ap (map (shard_in new slot)) t ∙ stored_put width slot i shards after size blobs r.contributed o.fresh others stored (take r.received_count r.received) o.sound.received_lie ∙ ap (λ s. put nat_cmp index_of s (map (shard_in at slot) (take r.received_count r.received))) shard_is

    checked_alike : map (shard_in new slot) (take r.checked_count r.checked) ≡ map (shard_in at slot) (take r.checked_count r.checked)
    checked_alike = map_alike (Lies width r.contributed) (shard_in new slot) (shard_in at slot) (take r.checked_count r.checked) still o.sound.checked_lie

    pending_alike : map (sent_in new slot) (take r.pending_count r.pending) ≡ map (sent_in at slot) (take r.pending_count r.pending)
    pending_alike = map_alike (λ p. Lies width r.contributed p.shard) (sent_in new slot) (sent_in at slot) (take r.pending_count r.pending) still_sent o.sound.pending_lie

    checked_job : map (shard_in new slot) (take r.job_checked r.checked) ≡ map (shard_in at slot) (take r.job_checked r.checked)
    checked_job = front_alike (shard_in new slot) (shard_in at slot) r.checked_count r.checked checked_alike r.job_checked o.sound.job_checked

    pending_job : map (sent_in new slot) (take r.job_pending r.pending) ≡ map (sent_in at slot) (take r.job_pending r.pending)
    pending_job = front_alike (sent_in new slot) (sent_in at slot) r.pending_count r.pending pending_alike r.job_pending o.sound.job_pending

    stored_lies : Lies width flags stored
    stored_lies = record { within = o.within; short = o.fits; counted = get_or-set_same r.contributed i true false reach }

    received_lies : (R : List Stored) (m : ℕ) → take m R ≡ put by_index index_named stored (take r.received_count r.received) → All (Lies width flags) (take m R)
    received_lies R m table =
        rw table (all_put by_index index_named (Lies width flags) stored (take r.received_count r.received) stored_lies (stored_lie (take r.received_count r.received) o.sound.received_lie))

    -- one that waits
    module _ (sender : Key) (R : List Stored) (m : ℕ) (P : List Pending) (n : ℕ) (before : r.cached ≡ false)
        (table : take m R ≡ put by_index index_named stored (take r.received_count r.received))
        (out : take r.job_pending P ≡ take r.job_pending r.pending)
        (waiting : drop r.job_pending (take n P) ≡ put by_sender sender_named (record { sender = sender; shard = stored }) (drop r.job_pending (take r.pending_count r.pending))) where
      abbrev after_wait : Record
      after_wait = with_pending P n (with_received R m flags r)

      waits-shards : shards_of new slot after_wait ≡ model.with_pending (record { sender = sender.bytes; shard = shard }) (shards_of at slot r)
      waits-shards =
          same_shards (received_is m R table)
          (rest_alike (shard_in new slot) (shard_in at slot) r.checked_count r.checked checked_alike r.job_checked)
          pending_is
          (ap (λ j. cond r.job j None) (same_job checked_job (ap (map (sent_in new slot)) out ∙ pending_job)))
        where
          pending_is : map (sent_in new slot) (drop r.job_pending (take n P)) ≡ put order sender_of (record { sender = sender.bytes; shard = shard }) (map (sent_in at slot) (drop r.job_pending (take r.pending_count r.pending)))
          pending_is =
              ap (map (sent_in new slot)) waiting
              ∙ sent_put width slot i shards after size blobs r.contributed o.fresh others (record { sender = sender; shard = stored }) (drop r.job_pending (take r.pending_count r.pending)) (All-drop (λ p. Lies width r.contributed p.shard) r.job_pending (take r.pending_count r.pending) o.sound.pending_lie)
              ∙ ap (λ s. put order sender_of (record { sender = sender.bytes; shard = s }) (map (sent_in at slot) (drop r.job_pending (take r.pending_count r.pending)))) shard_is

      pub waits-view : (c : List ℕ) → view new c slot after_wait ≡ with_contribution flags r.verified (queued (record { sender = sender.bytes; shard = shard }) (phase_of at slot r)) (view at c slot r)
      waits-view c = ap (λ p. with_contribution flags r.verified p (view at c slot r)) (simp before (ap awaiting waits-shards))

      rest_lies : All (λ p. Lies width flags p.shard) (drop r.job_pending (take n P))
      rest_lies = rw waiting (all_put by_sender sender_named (λ p. Lies width flags p.shard) (record { sender = sender; shard = stored }) (drop r.job_pending (take r.pending_count r.pending)) stored_lies (All-drop (λ p. Lies width flags p.shard) r.job_pending (take r.pending_count r.pending) sent_lie))

      front_lies : r.pending_count ≤ n → All (λ p. Lies width flags p.shard) (take r.job_pending (take n P))
      front_lies some =
          let same : take r.job_pending (take n P) ≡ take r.job_pending (take r.pending_count r.pending) =
          take-take r.job_pending n P (omega (arith, o.sound.job_pending)) ∙ out ∙ sym (take-take r.job_pending r.pending_count r.pending o.sound.job_pending) in
          rw same (All-take (λ p. Lies width flags p.shard) r.job_pending (take r.pending_count r.pending) sent_lie)

      pub waits-sound : length R ≡ 64 → length P ≡ 64 → m ≤ r.received_count + 1 → r.pending_count ≤ n → n ≤ r.pending_count + 1 → Sound width after_wait
      waits-sound long wide few some most =
          record {
            flags = flags_long;
            received_room = long;
            checked_room = o.sound.checked_room;
            pending_room = wide;
            received = omega (arith, o.sound.received, more);
            used = omega (arith, o.sound.used, more);
            job_checked = o.sound.job_checked;
            job_pending = omega (arith, o.sound.job_pending);
            no_job = o.sound.no_job;
            received_lie = received_lies R m table;
            checked_lie = stored_lie (take r.checked_count r.checked) o.sound.checked_lie;
            pending_lie = subst (All (λ p. Lies width flags p.shard)) (take-append-drop r.job_pending (take n P)) (All-append (λ p. Lies width flags p.shard) (take r.job_pending (take n P)) (drop r.job_pending (take n P)) (front_lies some) rest_lies);
          }

    -- one that has been checked
    module _ (R : List Stored) (m : ℕ) (before : r.cached ≡ false) (table : take m R ≡ put by_index index_named stored (take r.received_count r.received)) where
      abbrev after_check : Record
      after_check = with_checked (set r.checked r.checked_count stored) (r.checked_count + 1) (with_verified (with_received R m flags r))

      room : r.checked_count < length r.checked
      room = omega (arith, room_checked width r i bytes o, o.sound.checked_room)

      checked_more : take (r.checked_count + 1) (set r.checked r.checked_count stored) ≡ take r.checked_count r.checked ++ stored ∷ []
      checked_more = take_more_set r.checked r.checked_count stored room

      checks-shards : shards_of new slot after_check ≡ model.with_received shard ((shards_of at slot r).checked ++ shard ∷ []) (shards_of at slot r)
      checks-shards =
          same_shards (received_is m R table) checked_is
          (rest_alike (sent_in new slot) (sent_in at slot) r.pending_count r.pending pending_alike r.job_pending)
          (ap (λ j. cond r.job j None) (same_job (ap (map (shard_in new slot)) (take-set-le r.job_checked r.checked r.checked_count stored o.sound.job_checked) ∙ checked_job) pending_job))
        where
          checked_is : map (shard_in new slot) (drop r.job_checked (take (r.checked_count + 1) (set r.checked r.checked_count stored))) ≡ map (shard_in at slot) (drop r.job_checked (take r.checked_count r.checked)) ++ shard ∷ []
          checked_is =
              let within : r.job_checked ≤ length (take r.checked_count r.checked) = simp length-take (omega (arith, o.sound.job_checked, room)) in
              ap (λ l. map (shard_in new slot) (drop r.job_checked l)) checked_more
              ∙ ap (map (shard_in new slot)) (drop-append-le r.job_checked (take r.checked_count r.checked) (stored ∷ []) within)
              ∙ map-append (shard_in new slot) (drop r.job_checked (take r.checked_count r.checked)) (stored ∷ [])
              ∙ ap (λ l. l ++ shard_in new slot stored ∷ []) (rest_alike (shard_in new slot) (shard_in at slot) r.checked_count r.checked checked_alike r.job_checked)
              ∙ ap (λ x. map (shard_in at slot) (drop r.job_checked (take r.checked_count r.checked)) ++ x ∷ []) shard_is

      pub checks-view : (c : List ℕ) → view new c slot after_check ≡ with_contribution flags true (model.joined shard (phase_of at slot r)) (view at c slot r)
      checks-view c = ap (λ p. with_contribution flags true p (view at c slot r)) (simp before (ap awaiting checks-shards))

      pub checks-sound : length R ≡ 64 → m ≤ r.received_count + 1 → Sound width after_check
      checks-sound long fewer =
          record {
            flags = flags_long;
            received_room = long;
            checked_room = length-set r.checked r.checked_count stored ∙ o.sound.checked_room;
            pending_room = o.sound.pending_room;
            received = omega (arith, o.sound.received, more);
            used = omega (arith, o.sound.used, more);
            job_checked = omega (arith, o.sound.job_checked);
            job_pending = o.sound.job_pending;
            no_job = o.sound.no_job;
            received_lie = received_lies R m table;
            checked_lie = rw checked_more (All-push (Lies width flags) (take r.checked_count r.checked) stored (stored_lie (take r.checked_count r.checked) o.sound.checked_lie) stored_lies);
            pending_lie = sent_lie;
          }
