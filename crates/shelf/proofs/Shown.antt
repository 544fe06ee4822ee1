-- The example shelf is whole.
use Rattle.std.proofs.Common.{◌≡◌, ℕ, ◌≤◌, List, [], ◌∷◌, get_or, replicate, refl, arith}
use Rattle.std.proofs.lemmas.List.Elements.{All-from_recursion, All-nil, All-replicate}
use Rattle.record.specs.Sound.{Lies, Rooms, Sound}
use Rattle.shelf.specs.Example.{ExampleIsWhole, begun, filed_in}
use Rattle.shelf.specs.Views.{blank}
use Rattle.shelf.specs.Whole.{Fine}

begun_sound : (width : ℕ) → Sound width begun
begun_sound width =
    record { flags = refl; received_room = refl; checked_room = refl; pending_room = refl; received = omega arith; used = omega arith; job_checked = omega arith; job_pending = omega arith; no_job = λ h. (refl, refl); received_lie = All-nil (Lies width begun.contributed); checked_lie = All-nil (Lies width begun.contributed); pending_lie = All-nil (λ p. Lies width begun.contributed p.shard) }

begun_fine : (c : List ℕ) → Fine 100 100 c begun
begun_fine c = record { sound = begun_sound 100; filled = λ h. absurd (let z : ◌≡◌ {A = ℕ} 0 1 = cc in omega arith); blob = omega arith }

pub example_is_whole : ExampleIsWhole
example_is_whole =
    record {
      window = omega arith;
      narrow = omega arith;
      few = omega arith;
      entries = refl;
      slots = refl;
      low = All-from_recursion (λ f. f.slot ≤ 1) (filed_in 1 ∷ filed_in 0 ∷ []) (omega arith, (omega arith, tt));
      apart = (((λ h. let z : ◌≡◌ {A = ℕ} 0 1 = cc in omega arith), tt), (tt, tt));
      rooms = All-replicate Rooms 17 begun (record { received = refl; checked = refl; pending = refl });
      each = All-from_recursion (λ f. Fine 100 100 f.commitment.bytes (get_or (replicate 17 begun) f.slot blank)) (filed_in 1 ∷ []) (begun_fine (replicate 100 1), tt);
    }
