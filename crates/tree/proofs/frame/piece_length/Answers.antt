use Rattle.std.proofs.Common.{◌≡◌, ℕ, suc, ◌+◌, ◌-◌, ◌*◌, ◌/◌, ◌%◌, ◌<◌, ◌≤◌, sym, ap, ◌∙◌, ⊎_elim, add-one, suc-mul, arith, ne_eqb}
use Rattle.std.proofs.Math.Nat.{div-eq_of_lt-le}
use Rattle.std.proofs.lemmas.Bool.{cases_eq}
use Rattle.std.proofs.lemmas.Nat.{div-add-mod', mod_below}
use Rattle.std.specs.Int.{div_ceil}
use Rattle.tree.proofs.frame.piece_length.Goals as goal

-- rounding up, by adding one less than the divisor
ceil_is : (x k : ℕ) → 1 ≤ k → div_ceil x k ≡ (x + (k - 1)) / k
ceil_is x k some =
    let e : x / k * k + x % k ≡ x = div-add-mod' x k in
    let b : x % k < k = mod_below x k some in
    let one = suc-mul (x / k) k in
    let two = suc-mul (suc (x / k)) k in
    ⊎_elim
    (λ (z : x % k ≡ 0).
    let m : div_ceil x k ≡ x / k = omega arith in
    let low : x / k * k ≤ x + (k - 1) = omega arith in
    let high : x + (k - 1) < (x / k + 1) * k = rw add-one (omega arith) in
    m ∙ sym (div-eq_of_lt-le k low high))
    (λ (n : x % k ≡ 0 → ⊥).
    let m : div_ceil x k ≡ suc (x / k) = omega arith in
    let low : suc (x / k) * k ≤ x + (k - 1) = omega arith in
    let high : x + (k - 1) < (suc (x / k) + 1) * k = rw add-one (omega arith) in
    m ∙ sym (div-eq_of_lt-le k low high))
    (cases_eq (x % k) 0)

pub returns : goal.returns
returns c =
    let some : 1 ≤ c.args.pieces = omega (arith, c.if-pieces-eq0.false) in
    c.div_ceil.ensures
    ∙ ap (λ (n : ℕ). div_ceil (n + 4) c.from-2.result) c.from.ensures
    ∙ ap (λ (k : ℕ). div_ceil (c.args.blob + 4) k) c.from-2.ensures
    ∙ ceil_is (c.args.blob + 4) c.args.pieces some
    ∙ simp (ne_eqb c.args.pieces 0 c.if-pieces-eq0.false)
