-- The record at a place of the table, changed in its slot: what the shelf holds then.
use Rattle.std.proofs.Common.{◌≡◌, ℕ, zero, suc, ◌+◌, ◌<◌, ◌≤◌, inl, inr, List, [], ◌∷◌, map, length, get_or, take, set, refl, ap, ◌∙◌, subst, arith, length-set, length-take, get_or-set_other, get_or-set_same, get_or-take, take-take}
use Rattle.std.proofs.lemmas.Bool.{cases_eq}
use Rattle.std.proofs.lemmas.List.Elements.{All-from_recursion, All-get_or, All-set, All-take, All-weaker, recursion_from_All}
use Rattle.std.proofs.lemmas.List.{take-map}
use Rattle.register.specs.declared.counters.Round.{Round}
use Rattle.model.specs.Promises.{Distinct}
use Rattle.record.specs.Fields.{at_round}
use Rattle.record.specs.Sound.{Rooms}
use Rattle.record.specs.Views.{memory, view}
use Rattle.record.specs.declared.record.Record.{Record}
use Rattle.shelf.proofs.InPlace.{only_one}
use Rattle.shelf.specs.Views.{blank, held_in, nothing, shelf_of, slot_of}
use Rattle.shelf.specs.Whole.{Fine, Whole, with_records}
use Rattle.shelf.specs.declared.shelf.Filed.{Filed}
use Rattle.shelf.specs.declared.shelf.Shelf.{Shelf}

distinct_take : (n : ℕ) (xs : List ℕ) → Distinct xs → Distinct (take n xs)
distinct_take zero xs d = tt
distinct_take (suc n) [] d = tt
distinct_take (suc n) (x ∷ xs) d =
    (recursion_from_All (λ y. x ≡ y → ⊥) (take n xs) (All-take (λ y. x ≡ y → ⊥) n xs (All-from_recursion (λ y. x ≡ y → ⊥) xs d.0)), distinct_take n xs d.1)

module _ (s : Shelf) (w : Whole s) (place : ℕ) (within : place < s.count) where
  -- the slot of the entry at the place
  abbrev slot : ℕ
  slot = (get_or s.filed place nothing).slot

  slot_within : slot < length s.records
  slot_within =
      let front : place < s.window + 1 = omega (arith, w.few) in
      let long : place < length (take (s.window + 1) s.filed) = simp length-take (omega (arith, w.few, w.window, w.entries)) in
      let low : (get_or (take (s.window + 1) s.filed) place nothing).slot ≤ s.window = All-get_or (λ f. f.slot ≤ s.window) (take (s.window + 1) s.filed) place nothing long w.low in
      let same : (get_or (take (s.window + 1) s.filed) place nothing).slot ≡ slot = ap slot_of (get_or-take (s.window + 1) s.filed place nothing front) in
      omega (arith, low, same, w.window, w.slots)

  held_is : get_or (held_in s) place nothing ≡ get_or s.filed place nothing
  held_is = get_or-take s.count s.filed place nothing within

  held_within : place < length (held_in s)
  held_within = simp length-take (omega (arith, w.few, w.window, w.entries))

  held_apart : Distinct (map slot_of (held_in s))
  held_apart =
      subst Distinct
      (take-map slot_of s.count (take (s.window + 1) s.filed) ∙ ap (map slot_of) (take-take s.count (s.window + 1) s.filed w.few))
      (distinct_take s.count (map slot_of (take (s.window + 1) s.filed)) w.apart)

  pub lent_is : (r : Record) (shards blobs : List ℕ) → shelf_of (with_records (set s.records slot r) s) shards blobs ≡ set (shelf_of s shards blobs) place (view (memory s.width shards s.size blobs) (get_or s.filed place nothing).commitment.bytes slot r)
  lent_is r shards blobs =
      only_one s.width s.size slot shards shards blobs blobs (λ other i n ne lt h. refl) (λ other n ne h. refl) s.records r slot_within (held_in s) place held_within (ap slot_of held_is) held_apart w.each
      ∙ ap (λ (f : Filed). set (shelf_of s shards blobs) place (view (memory s.width shards s.size blobs) f.commitment.bytes slot r)) held_is

  pub lent_rooms : Rooms (get_or s.records slot blank)
  lent_rooms = All-get_or Rooms s.records slot blank slot_within w.rooms

  -- a record with room, as good for each commitment as the one before it
  pub lent_whole : (r : Record) → Rooms r → ((c : List ℕ) → Fine s.width s.size c (get_or s.records slot blank) → Fine s.width s.size c r) → Whole (with_records (set s.records slot r) s)
  lent_whole r rooms fine =
      record {
        window = w.window;
        narrow = w.narrow;
        few = w.few;
        entries = w.entries;
        slots = length-set s.records slot r ∙ w.slots;
        low = w.low;
        apart = w.apart;
        rooms = All-set Rooms s.records slot r rooms w.rooms;
        each = All-weaker (λ f. Fine s.width s.size f.commitment.bytes (get_or s.records f.slot blank)) (λ f. Fine s.width s.size f.commitment.bytes (get_or (set s.records slot r) f.slot blank)) still (held_in s) w.each;
      }
    where
      still : (f : Filed) → Fine s.width s.size f.commitment.bytes (get_or s.records f.slot blank) → Fine s.width s.size f.commitment.bytes (get_or (set s.records slot r) f.slot blank)
      still f h =
          elim (cases_eq f.slot slot) [
            | inl e ↦
                let is : get_or (set s.records slot r) f.slot blank ≡ r = ap (λ n. get_or (set s.records slot r) n blank) e ∙ get_or-set_same s.records slot r blank slot_within in
                rw is (fine f.commitment.bytes (subst (λ n. Fine s.width s.size f.commitment.bytes (get_or s.records n blank)) e h))
            | inr ne ↦ rw (get_or-set_other s.records slot f.slot r blank ne) h
          ]

-- the round is no part of what holds of a record
pub rooms_at_round : (round : Round) (r : Record) → Rooms r → Rooms (at_round round r)
rooms_at_round round r h = record { received = h.received; checked = h.checked; pending = h.pending }

pub fine_at_round : (round : Round) (width size : ℕ) (c : List ℕ) (r : Record) → Fine width size c r → Fine width size c (at_round round r)
fine_at_round round width size c r h =
    let s = h.sound in
    record {
      sound = record { flags = s.flags; received_room = s.received_room; checked_room = s.checked_room; pending_room = s.pending_room; received = s.received; used = s.used; job_checked = s.job_checked; job_pending = s.job_pending; no_job = s.no_job; received_lie = s.received_lie; checked_lie = s.checked_lie; pending_lie = s.pending_lie };
      filled = h.filled;
      blob = h.blob;
    }
