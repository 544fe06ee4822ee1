-- What a fold over the numbers below n gives, by a closure that changes none of its captures.
use Rattle.std.proofs.Common.{◌≡◌, ℕ, ◌-◌, List, [], ◌∷◌, ◌++◌, refl, arith}
use Rattle.std.specs.Fn.{Called}
use Rattle.std.specs.Iterator.{Drains}
use Rattle.std.specs.List.{FoldsTo, range_with_len}
use Rattle.std.proofs.iter.Yields.{nat_range_steps}
use Rattle.std.proofs.lemmas.Fn.{fold_over}
use Rattle.std.proofs.lemmas.Iterator.{YieldsList-from_range}
use denote.Param.Members.{Mut}

module _ {F C : Type 0} (g : Mut F (C × (ℕ × Unit {0})) C) (J : List ℕ → C → Type 0) (f : F) (step : (is : List ℕ) (a : C) (i : ℕ) (b : C) (f' : F) → J is a → Called g f (a, (i, tt)) b f' → J (is ++ i ∷ []) b × (f' ≡ f)) where
  pub fold_below : (n : ℕ) (a r : C) → J [] a
      → (is : List ℕ) × (f' : F) × Drains nat_range_steps (record { start = 0; end = n }) is × FoldsTo {P = F × C} (λ p i q. Called g p.0 (p.1, (i, tt)) q.1 q.0) (f, a) is (f', r)
      → J (range_with_len 0 n) r
  fold_below n a r from ran =
      let none : n - 0 ≡ n = omega arith in
      fold_over nat_range_steps (λ i. i) g J f step (record { start = 0; end = n }) (range_with_len 0 n) a r (YieldsList-from_range 0 n n refl none).runs from ran
