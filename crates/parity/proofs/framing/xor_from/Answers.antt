use Rattle.std.proofs.Common.{◌≡◌, ◌+◌, map, length, arith}
use Rattle.std.proofs.lemmas.List.FromFn.{fill_by_all}
use Rattle.parity.specs.Parities.{xored}
use Rattle.parity.proofs.framing.xor_from.Goals as goal

pub returns : goal.returns
returns c =
    let n : length c.loop-k.out ≡ length c.args.out.now = omega arith in
    fill_by_all (λ i. xored (c.args.at + i) (map (λ x. x.now) c.args.picks.now)) c.loop-k.out (length c.args.out.now) 0 n (λ i h. c.loop-k.invariant i (omega arith))
