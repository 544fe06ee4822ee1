-- Intake keeps a record sound, and a member's good shard at its own index has then contributed there.
use Rattle.std.proofs.Common.{◌≡◌, ℕ, ◌<◌, ◌≤◌, Bool, true, false, cond, eqb, List, [], ◌∷◌, ◌++◌, length, get_or, set, Some, None, Option, Equal, sym, refl, ap, ◌∙◌, arith, length-set}
use Rattle.std.proofs.lemmas.Bool.{both_ways, cond_both}
use Rattle.std.proofs.lemmas.List.{get_or-set_same}
use Rattle.std.proofs.lemmas.Option.{same_Some}
use Rattle.register.specs.ByteOrder.{order_same}
use Rattle.register.specs.Order.{order}
use Rattle.rosters.specs.Sound.{index}
use Rattle.scheme.specs.Pieces.{Indexed}
use Rattle.table.proofs.Carried.{all_look, all_put, all_weaker}
use Rattle.table.proofs.Lawful.{found_exactly}
use Rattle.model.specs.Intake.{Action, Class, acts, assigned, contributes, owned, stray, Taken, arrives, classed, dropped, from_member, index_of, is_assigned, led, received_at, rejected, sender_of, unless_contributed, unless_received, verifies, waits, with_pending, with_received}
use Rattle.model.specs.State.{Phase, awaiting, cached, Rec, Sent, Shards, with_contribution, with_phase}
use Rattle.model.specs.declared.answer.Reason.{Reason}
use Rattle.model.specs.declared.answer.Reason.TheVariants.{Stranger, WrongIndex}
use Rattle.runs.proofs.Each.{all_append, all_with}
use Rattle.runs.proofs.Entries.{by_option, number_laws, number_same}
use Rattle.runs.proofs.Places.{index_below}
use Rattle.runs.proofs.Records.{sent_at}
use Rattle.runs.proofs.Tallies.{flag, flag_kept, flag_set, none_there, tally, tally_append, tally_put_new}
use Rattle.enough.proofs.Counting.{itself}
use Rattle.enough.proofs.Held.{GivenTo, InPhase, Pending, Sound, Waiting}
use Rattle.std.specs.Ordering.{nat_cmp}

module _ (good : Indexed → Bool) (minimum : ℕ) (keys : List (List ℕ)) (own : Option ℕ) (Hand : List ℕ → Indexed → Type 0) where
  -- a shard that waits
  waits_keeps : (flags : List Bool) (verified : Bool) (w : Shards) (lost : List ℕ) (sender : List ℕ) (s : Indexed) →
      Waiting good minimum keys own Hand flags verified w lost → get_or flags s.index false ≡ false → s.index < 64 → Hand sender s → index sender keys ≡ Some s.index →
      Waiting good minimum keys own Hand (set flags s.index true) verified (with_pending (record { sender = sender; shard = s }) w) lost
  waits_keeps flags verified w lost sender s k off within handed place =
      let i = s.index in
      let p : Sent = record { sender = sender; shard = s } in
      let inside : i < length flags = omega (arith, k.long) in
      let none : tally sent_at i w.pending ≡ 0 = let t = k.tallied i in let b : flag (get_or flags i false) ≡ 0 = rw off in omega arith in
      let new = all_with (Pending good minimum keys own Hand) (λ x. i ≡ sent_at x → ⊥) (λ x. order x.sender sender ≡ Equal → ⊥)
      (λ x h n q. n (same_Some i (sent_at x) (sym place ∙ ap (λ a. index a keys) (sym (order_same x.sender sender q)) ∙ h.place)))
      w.pending k.pending (none_there sent_at i w.pending none) in
      record {
        long = length-set flags i true ∙ k.long;
        assigned = λ v j o. flag_kept flags i j (k.assigned v j o);
        tallied = λ j. let t = k.tallied j in let b = flag_set flags i j inside off in let n = tally_put_new sent_at order sender_of j p w.pending new in omega arith;
        received = all_put nat_cmp index_of (λ x. get_or (set flags i true) x.index false ≡ true) s w.received (get_or-set_same flags i true false inside)
            (all_weaker _ (λ x. get_or (set flags i true) x.index false ≡ true) (λ x h. flag_kept flags i x.index h) w.received k.received);
        checked = k.checked;
        pending = all_put order sender_of (Pending good minimum keys own Hand) p w.pending (record { handed = handed; place = place }) k.pending;
        job = k.job;
      }

  -- a good assigned shard
  joins_keeps : (flags : List Bool) (verified : Bool) (w : Shards) (lost : List ℕ) (sender : List ℕ) (s : Indexed) →
      Waiting good minimum keys own Hand flags verified w lost → get_or flags s.index false ≡ false → s.index < 64 → Hand sender s → good s ≡ true →
      ((i : ℕ) → own ≡ Some i → s.index ≡ i) →
      Waiting good minimum keys own Hand (set flags s.index true) true (with_received s (w.checked ++ s ∷ []) w) lost
  joins_keeps flags verified w lost sender s k off within handed passes mine =
      let i = s.index in
      let inside : i < length flags = omega (arith, k.long) in
      record {
        long = length-set flags i true ∙ k.long;
        assigned = λ v j o. grind (arith, get_or-set_same);
        tallied = λ j. grind (arith, flag_set, tally_append);
        received = all_put nat_cmp index_of (λ x. get_or (set flags i true) x.index false ≡ true) s w.received (get_or-set_same flags i true false inside)
            (all_weaker _ (λ x. get_or (set flags i true) x.index false ≡ true) (λ x h. flag_kept flags i x.index h) w.received k.received);
        checked = grind (arith, all_append);
        pending = k.pending;
        job = k.job;
      }

  -- what one intake comes to
  pub record Took (lost : List ℕ) (sender : List ℕ) (s : Indexed) (r : Rec) (t : Taken) : Type 0 where
    pub sound : Sound good minimum keys own Hand lost t.rec
    pub grows : (i : ℕ) → GivenTo r i → GivenTo t.rec i
    pub gets : index sender keys ≡ Some s.index → good s ≡ true → GivenTo t.rec s.index
    pub still : t.gained ≡ false → t.rec ≡ r
    pub commitment : t.rec.commitment ≡ r.commitment
    pub round : t.rec.round ≡ r.round
    pub leader : t.rec.leader ≡ r.leader

  module _ (few : length keys ≤ 64) (mine : (i : ℕ) → own ≡ Some i → i < length keys) (lost : List ℕ) (sender : List ℕ) (s : Indexed) (handed : Hand sender s) where
    unmoved : (r : Rec) (report : Option Reason) → Sound good minimum keys own Hand lost r →
        (index sender keys ≡ Some s.index → good s ≡ true → GivenTo r s.index) →
        Took lost sender s r (record { rec = r; report = report; action = None; gained = false })
    unmoved r report k gets = grind arith

    -- a stray shard is at nobody's index, a bad one is not good
    unmoved_led : (r : Rec) (l : Option (List ℕ)) → Sound good minimum keys own Hand lost r →
        (index sender keys ≡ Some s.index → good s ≡ true → GivenTo r s.index) →
        Took lost sender s r (led l (rejected WrongIndex r) (dropped r))
    unmoved_led r l k gets = grind arith

    module _ (r : Rec) (w : Shards) (k : InPhase good minimum keys own Hand r.contributed r.verified r.completions lost (awaiting w)) where
      -- the index contributes
      gains : (v : Shards) (verified : Bool) (action : Option Action) → Sound good minimum keys own Hand lost (with_contribution (contributes s r) verified (awaiting v) r) → s.index < 64 →
          Took lost sender s (with_phase (awaiting w) r) (record { rec = with_contribution (contributes s r) verified (awaiting v) r; report = None; action = action; gained = true })
      gains v verified action sound within = record {
        sound = sound;
        grows = λ i h. flag_kept r.contributed s.index i h;
        gets = λ _ _. get_or-set_same r.contributed s.index true false (omega (arith, k.0.long));
        still = λ e. absurd (both_ways true e refl);
        commitment = refl;
        round = refl;
        leader = refl;
      }

      waited : get_or r.contributed s.index false ≡ false → index sender keys ≡ Some s.index → Took lost sender s (with_phase (awaiting w) r) (waits sender s w (with_phase (awaiting w) r))
      waited off place =
          let within : s.index < 64 = let b = index_below sender keys s.index place in omega arith in
          gains (with_pending (record { sender = sender; shard = s }) w) r.verified None (waits_keeps r.contributed r.verified w lost sender s k.0 off within handed place, k.1) within

      -- a received index has contributed
      unless_got : (next : Taken) → (get_or r.contributed s.index false ≡ false → Took lost sender s (with_phase (awaiting w) r) next) →
          Took lost sender s (with_phase (awaiting w) r) (unless_received (received_at s.index w) s (with_phase (awaiting w) r) (unless_contributed s (with_phase (awaiting w) r) next))
      unless_got next go = grind (arith, unmoved, found_exactly, number_laws, number_same, all_look)

      -- an assigned shard stands at the own index, or at its sender's
      verified_in : get_or r.contributed s.index false ≡ false → good s ≡ true → s.index < 64 → ((i : ℕ) → own ≡ Some i → s.index ≡ i) →
          Took lost sender s (with_phase (awaiting w) r) (verifies own s (with_phase (awaiting w) r))
      verified_in off passes within at =
          gains (with_received s (w.checked ++ s ∷ []) w) true (Some (acts own s)) (joins_keeps r.contributed r.verified w lost sender s k.0 off within handed passes at, k.1) within

      before : (place : ℕ) → index sender keys ≡ Some place →
          Took lost sender s (with_phase (awaiting w) r) (arrives good own sender s (with_phase (awaiting w) r) (awaiting w) (classed own r.leader sender place s.index))
      before place at =
          cond_both (is_assigned own r.leader sender place s.index) assigned (cond (eqb s.index place) owned stray)
          (λ cl. Took lost sender s (with_phase (awaiting w) r) (arrives good own sender s (with_phase (awaiting w) r) (awaiting w) cl))
          (λ is. grind (arith, unless_got, waited, by_own is, verified_in, inside is, at_own is, unmoved))
          (λ _. grind (arith, unless_got, waited, unmoved_led))
        where
          by_own : is_assigned own r.leader sender place s.index ≡ true → r.verified ≡ true → get_or r.contributed s.index false ≡ false → index sender keys ≡ Some s.index
          by_own is on off = grind (arith, k.0.assigned on)

          inside : is_assigned own r.leader sender place s.index ≡ true → s.index < 64
          inside is = grind (arith, index_below, mine)

          at_own : is_assigned own r.leader sender place s.index ≡ true → (i : ℕ) → own ≡ Some i → s.index ≡ i
          at_own is i f = grind arith

    -- behind the block nothing is asked of a record any more
    after : (r : Rec) (blob : List ℕ) → ((i : ℕ) → tally itself i lost ≤ 1) → (cl : Class) →
        Took lost sender s (with_phase (cached blob) r) (arrives good own sender s (with_phase (cached blob) r) (cached blob) cl)
    after r blob k cl = grind arith

    arrived : (r : Rec) (ph : Phase) (place : ℕ) → InPhase good minimum keys own Hand r.contributed r.verified r.completions lost ph → index sender keys ≡ Some place →
        Took lost sender s (with_phase ph r) (arrives good own sender s (with_phase ph r) ph (classed own r.leader sender place s.index))
    arrived r ph place k at = grind (arith, before, after)

    pub taken_in : (r : Rec) → Sound good minimum keys own Hand lost r → Took lost sender s r (from_member good own sender s r (index sender keys))
    taken_in r k =
        by_option (λ o. Took lost sender s r (from_member good own sender s r o)) (index sender keys)
        (λ e. unmoved r (Some Stranger) k (λ here _. cc))
        (λ place at. arrived r r.phase place k at)
