-- One record changed in its slot: it is the only one that changes.
use Rattle.std.proofs.Common.{◌≡◌, ℕ, zero, suc, ◌<◌, Bool, cond, List, [], ◌∷◌, map, length, get_or, take, set, None, sym, refl, ap, ◌∙◌, subst, arith, get_or-set_other, get_or-set_same}
use Rattle.std.proofs.lemmas.List.Elements.{All-head, All-tail}
use Rattle.std.specs.List.{All, AllByRecursion}
use Rattle.places.specs.Places.{held}
use Rattle.model.specs.Promises.{Distinct}
use Rattle.model.specs.State.{awaiting, cached}
use Rattle.record.proofs.Joined.{front_alike, rest_alike}
use Rattle.record.proofs.Joining.{map_alike}
use Rattle.record.proofs.Starting.{same_job, same_shards}
use Rattle.record.specs.Joins.{Elsewhere}
use Rattle.record.specs.Sound.{Lies, Sound}
use Rattle.record.specs.Views.{Memory, memory, phase_of, sent_in, shard_in, shards_of, view}
use Rattle.record.specs.declared.record.Record.{Record}
use Rattle.record.specs.declared.stored.Pending.{Pending}
use Rattle.record.specs.declared.stored.Stored.{Stored}
use Rattle.shelf.specs.Views.{blank, nothing, record_in, slot_of}
use Rattle.shelf.specs.Whole.{Fine, OtherBlobs}
use Rattle.shelf.specs.declared.shelf.Filed.{Filed}

slot_at : (P : ℕ → Type 0) (xs : List Filed) (i : ℕ) → i < length xs → AllByRecursion P (map slot_of xs) → P (get_or xs i nothing).slot
slot_at P [] i h all = absurd (omega arith)
slot_at P (x ∷ xs) zero h all = all.0
slot_at P (x ∷ xs) (suc i) h all = slot_at P xs i (omega arith) all.1

module _ (width size slot : ℕ) (shards shards' blobs blobs' : List ℕ) (apart : Elsewhere width slot shards shards') (others : OtherBlobs size slot blobs blobs') where
  abbrev at : Memory
  at = memory width shards size blobs

  abbrev new : Memory
  new = memory width shards' size blobs'

  module _ (other : ℕ) (differs : other ≡ slot → ⊥) where
    lies_alike : (flags : List Bool) (s : Stored) → Lies width flags s → shard_in new other s ≡ shard_in at other s
    lies_alike flags s l = ap (λ b. record { index = s.index.0; bytes = b }) (apart other s.index.0 s.len differs l.within l.short)

    sent_alike : (flags : List Bool) (p : Pending) → Lies width flags p.shard → sent_in new other p ≡ sent_in at other p
    sent_alike flags p l = ap (λ x. record { sender = p.sender.bytes; shard = x }) (lies_alike flags p.shard l)

    shards_alike : (r : Record) → Sound width r → shards_of new other r ≡ shards_of at other r
    shards_alike r s =
        same_shards (map_alike (Lies width r.contributed) (shard_in new other) (shard_in at other) (take r.received_count r.received) (lies_alike r.contributed) s.received_lie)
        (rest_alike (shard_in new other) (shard_in at other) r.checked_count r.checked checked r.job_checked)
        (rest_alike (sent_in new other) (sent_in at other) r.pending_count r.pending pending r.job_pending)
        (ap (λ j. cond r.job j None) (same_job (front_alike (shard_in new other) (shard_in at other) r.checked_count r.checked checked r.job_checked s.job_checked) (front_alike (sent_in new other) (sent_in at other) r.pending_count r.pending pending r.job_pending s.job_pending)))
      where
        checked : map (shard_in new other) (take r.checked_count r.checked) ≡ map (shard_in at other) (take r.checked_count r.checked)
        checked = map_alike (Lies width r.contributed) (shard_in new other) (shard_in at other) (take r.checked_count r.checked) (lies_alike r.contributed) s.checked_lie

        pending : map (sent_in new other) (take r.pending_count r.pending) ≡ map (sent_in at other) (take r.pending_count r.pending)
        pending = map_alike (λ p. Lies width r.contributed p.shard) (sent_in new other) (sent_in at other) (take r.pending_count r.pending) (sent_alike r.contributed) s.pending_lie

    pub view_alike : (c : List ℕ) (r : Record) → Fine width size c r → view new c other r ≡ view at c other r
    view_alike c r fine =
        ap (λ p. record { commitment = c; round = r.round; leader = (view at c other r).leader; contributed = r.contributed; verified = r.verified; completions = r.completions; phase = p }) phases
      where
        phases : phase_of new other r ≡ phase_of at other r
        phases =
            let b = others other r.blob_len differs fine.blob in
            let w = shards_alike r fine.sound in
            ap (λ x. cond r.cached (cached x) (awaiting (shards_of new other r))) b ∙ ap (λ x. cond r.cached (cached (held size other r.blob_len blobs)) (awaiting x)) w

  module _ (records : List Record) (r : Record) (low : slot < length records) where
    abbrev fine_in : Filed → Type 0
    fine_in f = Fine width size f.commitment.bytes (get_or records f.slot blank)

    other_entry : (f : Filed) → (f.slot ≡ slot → ⊥) → fine_in f → record_in new (set records slot r) f ≡ record_in at records f
    other_entry f ne fine =
        ap (view new f.commitment.bytes f.slot) (get_or-set_other records slot f.slot r blank ne) ∙ view_alike f.slot ne f.commitment.bytes (get_or records f.slot blank) fine

    this_entry : (f : Filed) → f.slot ≡ slot → record_in new (set records slot r) f ≡ view new f.commitment.bytes slot r
    this_entry f is = ap (λ n. view new f.commitment.bytes n (get_or (set records slot r) n blank)) is ∙ ap (view new f.commitment.bytes slot) (get_or-set_same records slot r blank low)

    all_others : (xs : List Filed) → AllByRecursion (λ y. slot ≡ y → ⊥) (map slot_of xs) → All fine_in xs → map (record_in new (set records slot r)) xs ≡ map (record_in at records) xs
    all_others [] d all = refl
    all_others (x ∷ xs) d all =
        let a = other_entry x (λ e. d.0 (sym e)) (All-head fine_in x xs all) in let b = all_others xs d.1 (All-tail fine_in x xs all) in cc

    -- in a list of entries with slots of their own, only the one at place i has this slot
    pub only_one : (xs : List Filed) (i : ℕ) → i < length xs → (get_or xs i nothing).slot ≡ slot → Distinct (map slot_of xs) → All fine_in xs →
        map (record_in new (set records slot r)) xs ≡ set (map (record_in at records) xs) i (view new (get_or xs i nothing).commitment.bytes slot r)
    only_one [] i h is d all = absurd (omega arith)
    only_one (x ∷ xs) zero h is d all =
        let a = this_entry x is in let b = all_others xs (subst (λ n. AllByRecursion (λ y. n ≡ y → ⊥) (map slot_of xs)) is d.0) (All-tail fine_in x xs all) in cc
    only_one (x ∷ xs) (suc i) h is d all =
        let ne : x.slot ≡ slot → ⊥ = λ e. slot_at (λ y. x.slot ≡ y → ⊥) xs i (omega arith) d.0 (e ∙ sym is) in
        let a = other_entry x ne (All-head fine_in x xs all) in let b = only_one xs i (omega arith) is d.1 (All-tail fine_in x xs all) in cc
