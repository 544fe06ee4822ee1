use Rattle.std.proofs.Common.{◌≡◌, ℕ, ◌+◌, ◌*◌, take, Some, sym, refl, ap, ◌∙◌, arith}
use Rattle.std.proofs.lemmas.List.Elements.{recursion_from_All}
use Rattle.std.specs.Ordering.{nat_cmp}
use Rattle.std.specs.Option.{option_map}
use Rattle.model.specs.Intake.{index_of, received_at}
use Rattle.places.proofs.Putting.{step_up}
use Rattle.record.specs.Fields.{by_index, index_named}
use Rattle.record.specs.Sound.{Lies}
use Rattle.record.specs.Views.{Memory, memory, shard_in, shards_of}
use Rattle.record.specs.declared.record.Record.{Record}
use Rattle.table.proofs.Carried.{all_look, map-look}
use Rattle.table.specs.Laws.{look}
use Rattle.intake.specs.Classes.{bytes_of}
use Rattle.intake.proofs.received.received.Goals as goal

-- the model finds what the table has at the index, as it lies in memory
found_is : (at : Memory) (slot index : ℕ) (r : Record) → option_map (shard_in at slot) (look by_index index_named (record { 0 = index }) (take r.received_count r.received)) ≡ received_at index (shards_of at slot r)
found_is at slot index r = sym (map-look by_index index_named nat_cmp index_of (shard_in at slot) (record { 0 = index }) index (take r.received_count r.received) (λ x. refl))

pub load-requires : goal.load-requires
load-requires c =
    let r = c.args.rec.now in
    let lie = recursion_from_All (Lies c.args.slot.width r.contributed) (take r.received_count r.received) c.requires.sound.received_lie in
    let lies = all_look by_index index_named (Lies c.args.slot.width r.contributed) (record { 0 = c.args.index }) (take r.received_count r.received) c.in_ok-stored.stored.now (sym c.in_ok-stored.ensures) lie in
    let up = step_up (c.args.slot.number * 64 + c.in_ok-stored.stored.now.index.0) (c.args.slot.number * 64 + 64) c.args.slot.width (omega (arith, lies.within)) in
    record { fits = lies.short; there = simp c.place-place.ensures (omega (arith, up, c.requires.placed)) }

pub returns-in_err-stored : goal.returns-in_err-stored
returns-in_err-stored c size blobs =
    let at = memory c.args.slot.width c.args.shards.now size blobs in
    simp c.from_residual.ensures (ap (option_map bytes_of) (ap (option_map (shard_in at c.args.slot.number)) c.in_err-stored.ensures ∙ found_is at c.args.slot.number c.args.index c.args.rec.now))

pub returns : goal.returns
returns c size blobs =
    let at = memory c.args.slot.width c.args.shards.now size blobs in
    ap Some (simp c.place-place.ensures at c.load.ensures.value)
    ∙ ap (option_map bytes_of) (ap (option_map (shard_in at c.args.slot.number)) c.in_ok-stored.ensures ∙ found_is at c.args.slot.number c.args.index c.args.rec.now)
