-- The order on byte strings is the library's of slices of bytes, and total: it reverses, it is transitive, and equal is the same string. Assumes nothing.
use Rattle.std.specs.Prelude.{◌≡◌, ℕ, List, [], ◌∷◌, refl}
use Rattle.std.specs.declared.cmp.Ordering.TheVariants.{Less, Equal}
use Rattle.std.proofs.Common.{◌∙◌, subst, arith}
use Rattle.std.proofs.lemmas.Bool.Decides.{nat_tests}
use Rattle.std.specs.Cmp.{IsTotalOrder}
use Rattle.std.specs.Cmp.Lexicographic.{nat_list_cmp_total, slice_cmp}
use Rattle.std.specs.FinMap.{nat_cmp-IsAntisymmetric, slice_cmp-IsAntisymmetric}
use Rattle.std.specs.Ordering.{nat_cmp, ordering_reverse}
use Rattle.register.specs.Order.{order}

pub slice_order : (xs ys : List ℕ) → slice_cmp nat_cmp xs ys ≡ order xs ys
slice_order [] [] = refl
slice_order [] (y ∷ ys) = refl
slice_order (x ∷ xs) [] = refl
slice_order (x ∷ xs) (y ∷ ys) = let h = slice_order xs ys in grind (arith, nat_tests)

pub slice_same : (xs ys : List ℕ) → slice_cmp nat_cmp xs ys ≡ Equal → xs ≡ ys
slice_same xs ys e = slice_cmp-IsAntisymmetric nat_cmp-IsAntisymmetric xs ys e

pub order_total : IsTotalOrder order
order_total = subst IsTotalOrder (λ i xs ys. slice_order xs ys i) nat_list_cmp_total

pub order_reverses : (xs ys : List ℕ) → order ys xs ≡ ordering_reverse (order xs ys)
order_reverses xs ys = order_total.antisymm ys xs

pub order_same : (xs ys : List ℕ) → order xs ys ≡ Equal → xs ≡ ys
order_same xs ys e = slice_same xs ys (slice_order xs ys ∙ e)

pub order_ascends : (xs ys zs : List ℕ) → order xs ys ≡ Less → order ys zs ≡ Less → order xs zs ≡ Less
order_ascends = order_total.trans

pub order_ties : (xs ys zs : List ℕ) → order xs ys ≡ Equal → order xs zs ≡ order ys zs
order_ties = order_total.congr
