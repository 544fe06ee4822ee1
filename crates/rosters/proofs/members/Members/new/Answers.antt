use Rattle.std.proofs.Common.{◌≡◌, ◌≤◌, true, length, arith, rules}
use Rattle.rosters.specs.Sound.{all_bytes, ascending}
use Rattle.rosters.specs.Soundness.{sound_slots}
use Rattle.rosters.proofs.members.Members.new.Goals as goal

pub invariant_of-result : goal.invariant_of-result
invariant_of-result c =
    let ks = c.args.keys.now in
    let few : length ks ≤ 64 = omega arith in
    let long : length c.slots.result ≡ 64 = omega arith in
    let up : ascending (all_bytes ks) ≡ true = search rules in
    record { ok = sound_slots c.slots.result ks c.args.own c.in_ok-own.own few long c.slots.ensures up c.in_ok-own.ensures }
