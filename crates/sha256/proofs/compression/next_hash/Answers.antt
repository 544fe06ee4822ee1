use Rattle.std.proofs.Common.{◌≡◌, ◌+◌, ◌-◌, ◌*◌, length, refl, arith, rules}
use Rattle.sha256.specs.Fips180.{compress, rounds}
use Rattle.sha256.specs.Window.{slid}
use Rattle.sha256.proofs.Rounds.{rounds_turn, slide_turn}
use Rattle.sha256.proofs.compression.next_hash.Goals as goal

pub loop-i-init : goal.loop-i-init
unfolding rounds slid
loop-i-init c =
    let long : length c.args.m ≡ 16 = search rules in
    (rounds_turn 0 c.args.m c.args.h long (omega arith) refl refl c.sixteen_rounds-s.ensures, refl)

pub loop-i-preserved : goal.loop-i-preserved
loop-i-preserved c =
    let long : length c.args.m ≡ 16 = search rules in
    let back : c.loop-i.i - 1 + 1 ≡ c.loop-i.i = omega arith in
    let on : c.loop-i.i + 1 - 1 ≡ c.loop-i.i = omega arith in
    let w-is = simp back at (slide_turn (c.loop-i.i - 1) c.args.m c.loop-i.invariant.1 c.slide_sixteen-following.ensures) in (
      rounds_turn c.loop-i.i c.args.m c.args.h long c.loop-i-test.true c.loop-i.invariant.0 w-is c.sixteen_rounds-after.ensures,
      rw on w-is,
    )

pub returns : goal.returns
unfolding compress
returns c =
    let end : 16 * c.loop-i.i ≡ 64 = omega arith in
    cc
