-- What `from_fn` makes by a closure that changes none of its captures.
use Rattle.std.proofs.Common.{◌≡◌, ℕ, zero, suc, ◌+◌, ◌<◌, ◌≤◌, List, map, get_or, subst, sym, ⊎_elim, ap, ◌∙◌, arith}
use Rattle.std.specs.List.{range_with_len}
use Rattle.std.specs.Array.{IsFromFnResult, IsFromFnResultFrom}
use Rattle.std.specs.Fn.{Called}
use Rattle.std.proofs.lemmas.List.FromFn.{fill_by_all}
use Rattle.std.proofs.lemmas.Bool.{cases_lt}
use denote.Param.Members.{Mut}

module _ {F : Type 0} (g : Mut F (ℕ × Unit {0}) ℕ) (made : ℕ → ℕ) (f : F) (n : ℕ) (call : (i x : ℕ) (f' : F) → i < n → Called g f (i, tt) x f' → (x ≡ made i) × (f' ≡ f)) where
  made_from : (xs : List ℕ) (i m : ℕ) → i + m ≤ n → IsFromFnResultFrom g f xs i m → (k : ℕ) → i ≤ k → k < i + m → get_or xs k 0 ≡ made k
  made_from xs i zero within all k low high = absurd (omega arith)
  made_from xs i (suc m) within all k low high =
      let first = call i all.1 all.0 (omega arith) all.3 in
      ⊎_elim
      (λ later. made_from xs (i + 1) m (omega arith) (subst (λ f'. IsFromFnResultFrom g f' xs (i + 1) m) first.1 all.4) k (omega arith) (omega arith))
      (λ here. let same : k ≡ i = omega arith in ap (λ p. get_or xs p 0) same ∙ all.2.1 0 ∙ first.0 ∙ ap made (sym same))
      (cases_lt i k)

  pub made_each : (xs : List ℕ) → IsFromFnResult g f xs n → xs ≡ map made (range_with_len 0 n)
  made_each xs all = fill_by_all made xs n 0 all.long (λ k low. made_from xs 0 n (omega arith) all.each k (omega arith) (omega arith))
