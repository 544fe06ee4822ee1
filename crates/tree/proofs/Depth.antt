-- The depth is the least that has room for the last leaf. Assumes nothing.
use Rattle.std.proofs.Common.{◌≡◌, ℕ, suc, ◌+◌, ◌^◌, ◌<◌, ◌≤◌, subst, ⊎_elim, pow-suc, arith, pow_mono}
use Rattle.std.specs.Int.Count.{count_leading_zeros}
use Rattle.std.proofs.lemmas.Nat.{leading_length}
use Rattle.std.proofs.lemmas.Bool.{cases_lt}
use Rattle.tree.specs.Trees.{depth}

is_length : (last : ℕ) (m : ℕ) → count_leading_zeros 32 last + m ≡ 32 → m ≡ depth last
is_length last m e = omega arith

pub depth_enough : (last : ℕ) → last < 2 ^ 32 → last < 2 ^ depth last
depth_enough last h =
    let l = leading_length 32 last h in
    subst (λ (d : ℕ). last < 2 ^ d) (is_length last l.0 l.1) l.2

pub depth_least : (last : ℕ) → last < 2 ^ 32 → (d : ℕ) → last < 2 ^ d → depth last ≤ d
depth_least last h d k =
    let l = leading_length 32 last h in
    let e = is_length last l.0 l.1 in
    ⊎_elim
    (λ (more : d < l.0).
    let p : 2 ^ suc d ≤ 2 ^ l.0 = pow_mono more in
    let q = pow-suc 2 d in
    absurd (omega (arith, l.3)))
    (λ le. omega (arith, e))
    (cases_lt d l.0)
