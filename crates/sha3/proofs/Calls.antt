-- What a `fold` over a range gives, whose closure changes none of its captures and asks that its number is below the end.
use Rattle.std.proofs.Common.{map-id, ◌≡◌, ℕ, suc, ◌-◌, ◌<◌, ◌≤◌, List, [], ◌∷◌, ◌++◌, length, get_or, refl, subst, sym, ap, ◌∙◌, arith, length-append}
use Rattle.std.specs.List.{range_with_len}
use Rattle.std.specs.Fn.{Called}
use Rattle.std.specs.Iterator.{FoldsItems}
use Rattle.std.proofs.iter.Yields.{Range-gives, gives_Drains, nat_range_steps}
use Rattle.std.proofs.lemmas.Fn.{chained_keeps}
use Rattle.std.proofs.lemmas.List.{get_or_append_left, get_or_at}
use Rattle.std.proofs.lemmas.List.FromFn.{get_or-range_with_len, length-range_with_len}
use Rattle.std.specs.declared.ops.Range.{Range}
use denote.Param.Members.{Mut}

module _ {F B : Type 0} (g : Mut F (B × (ℕ × Unit {0})) B) (state : ℕ → B) (f : F) (n : ℕ) (call : (k : ℕ) (r : B) (f' : F) → k < n → Called g f (state k, (k, tt)) r f' → (r ≡ state (suc k)) × (f' ≡ f)) where
  abbrev Turn : F × B → ℕ → F × B → Type 0
  Turn p k q = Called g p.0 (p.1, (k, tt)) q.1 q.0

  -- what is reached after the numbers ks, if those are 0, 1, ..
  abbrev Reached : List ℕ → F × B → Type 0
  Reached ks p = ((k : ℕ) → k < length ks → get_or ks k 0 ≡ k) → length ks ≤ n → (p.0 ≡ f) × (p.1 ≡ state (length ks))

  one_more : (ks : List ℕ) (p : F × B) (k : ℕ) (q : F × B) → Reached ks p → Turn p k q → Reached (ks ++ k ∷ []) q
  one_more ks p k q before turn counted low =
      let long = length-append ks (k ∷ []) in
      let here : k ≡ length ks = sym (get_or_at ks k [] 0 (length ks) refl) ∙ counted (length ks) (omega arith) in
      let so_far = before (λ i h. sym (get_or_append_left ks (k ∷ []) 0 i h) ∙ counted i (omega arith)) (omega arith) in
      let at : p.1 ≡ state k = so_far.1 ∙ ap state (sym here) in
      let next : suc k ≡ length (ks ++ k ∷ []) = omega arith in
      let after = call k q.1 q.0 (omega arith) (subst (λ b. Called g f (b, (k, tt)) q.1 q.0) at (subst (λ h. Called g h (p.1, (k, tt)) q.1 q.0) so_far.0 turn)) in
      (after.1, after.0 ∙ ap state next)

  pub folded : (s : Range ℕ) (r : B) → s.start ≡ 0 → s.end ≡ n → FoldsItems nat_range_steps g s f (state 0) r → r ≡ state n
  folded s r first last ran =
      let from : ran.0 ≡ range_with_len s.start (s.end - s.start) = sym (map-id ran.0) ∙ gives_Drains nat_range_steps (λ k. k) ran.0 _ s (Range-gives s) ran.2 in
      let long : length ran.0 ≡ n = ap length from ∙ length-range_with_len s.start (s.end - s.start) ∙ omega arith in
      let end = chained_keeps Turn Reached one_more ran.0 (f, state 0) (ran.1, r) (λ counted low. (refl, refl)) ran.3 in
      (end (λ k low. ap (λ ks. get_or ks k 0) from ∙ get_or-range_with_len s.start (s.end - s.start) k 0 (omega arith) ∙ omega arith) (omega arith)).1 ∙ ap state long
