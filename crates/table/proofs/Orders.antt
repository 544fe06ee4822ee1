-- What the laws of an order give.
use Rattle.std.proofs.Common.{◌≡◌, Ordering, Less, Equal, Greater, refl, ap, ◌∙◌}
use Rattle.std.specs.Cmp.{IsTotalOrder}
use Rattle.std.specs.Ordering.{ordering_reverse}

-- the three ways that two keys compare
pub by_order : {G : Type 0} (o : Ordering) → (o ≡ Less → G) → (o ≡ Equal → G) → (o ≡ Greater → G) → G
by_order Less l e g = l refl
by_order Equal l e g = e refl
by_order Greater l e g = g refl

-- what an order of keys says of itself, as std says it
pub total_order : {K : Type 0} {order : K → K → Ordering} → ((a b : K) → order b a ≡ ordering_reverse (order a b)) → ((a b c : K) → order a b ≡ Less → order b c ≡ Less → order a c ≡ Less) → ((a b c : K) → order a b ≡ Equal → order a c ≡ order b c) → IsTotalOrder order
total_order reverses ascends ties = record {
  antisymm = λ a b. reverses b a;
  trans = ascends;
  congr = ties;
}

module _ {K : Type 0} (order : K → K → Ordering) (laws : IsTotalOrder order) where
  pub above : (a b : K) → order a b ≡ Less → order b a ≡ Greater
  above a b h = laws.antisymm b a ∙ ap ordering_reverse h

  pub below : (a b : K) → order a b ≡ Greater → order b a ≡ Less
  below a b h = laws.antisymm b a ∙ ap ordering_reverse h
