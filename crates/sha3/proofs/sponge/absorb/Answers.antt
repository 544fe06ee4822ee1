use Rattle.std.proofs.Common.{◌≡◌, ◌+◌, ◌-◌, ◌++◌, length, get_or, drop, ap, ◌∙◌, ⊎_elim, not-suc-le-zero, rules, arith, length-append, length-drop, length-take-le}
use Rattle.std.proofs.lemmas.List.{get_or-append_right, get_or-drop, get_or-take, get_or_append_left}
use Rattle.std.proofs.lemmas.List.FromFn.{fill_by_all}
use Rattle.std.proofs.lemmas.Bool.{cases_lt}
use Rattle.sha3.specs.Fips202.{padded, xored, xored_lane}
use Rattle.sha3.proofs.Absorbing.{stays}
use Rattle.sha3.proofs.sponge.absorb.Goals as goal

pub loop-l-init : goal.loop-l-init
loop-l-init c =
    let n : length c.args.state ≡ 25 = search rules in
    (length-take-le 17 c.args.state (omega arith), (λ k h. absurd (not-suc-le-zero h)), (λ k _ h. get_or-take 17 c.args.state k 0 h))

pub returns : goal.returns
unfolding xored
returns c =
    let S = c.args.state in
    let P = padded c.args.message.now in
    let n : length S ≡ 25 = search rules in
    let front = c.loop-l.lane-items in
    let m : length front ≡ 17 = c.loop-l.invariant.0 in
    let rest : length (drop 17 S) ≡ 8 = omega (arith, length-drop 17 S) in
    let whole : length (front ++ drop 17 S) ≡ 25 = omega (arith, length-append front (drop 17 S)) in
    fill_by_all (xored_lane S P 0) (front ++ drop 17 S) 25 0 whole
    (λ k h.
    ⊎_elim
    (λ low. get_or_append_left front (drop 17 S) 0 k (omega arith) ∙ c.loop-l.invariant.1 k (omega arith))
    (λ high.
    let back : 17 + (k - 17) ≡ k = omega arith in
    get_or-append_right front (drop 17 S) 17 k 0 m high ∙ get_or-drop 17 S (k - 17) 0 ∙ ap (λ i. get_or S i 0) back ∙ stays S P 0 k high)
    (cases_lt k 17))
