-- A walk by one entry, and where a walk ends. Assumes nothing.
use Rattle.std.specs.Prelude.{◌≡◌, ℕ, zero, suc, ◌+◌, ◌-◌, ◌<◌, ◌≤◌, ◌&&◌, List, length, Some, None, Option, nat_le}
use Rattle.std.proofs.Common.{sym, ap, ◌∙◌, arith}
use Rattle.std.proofs.lemmas.Bool.{and_parts, cond_both, leb-true}
use Rattle.std.specs.Option.{option_and_then, option_map}
use Rattle.register.specs.Words.{word}
use Rattle.block.specs.Heads.{head_length}
use Rattle.block.specs.Readings.{Inside}
use Rattle.listed.specs.Listeds.{entry_walked, listed_ends, listed_reads, walk_start, walked}
use Rattle.listed.specs.declared.walk.Walk.{Walk}

module _ (digest : List ℕ → List ℕ) (blob : List ℕ) (n i : ℕ) (w : Walk) (h : i < n) where
  one : walked digest blob (n - i) w ≡ option_and_then (walked digest blob (n - (i + 1))) (entry_walked digest blob w)
  one =
      let e : n - i ≡ suc (n - (i + 1)) = omega arith in
      ap (λ (k : ℕ). walked digest blob k w) e

  pub stops : None ≡ entry_walked digest blob w → walked digest blob (n - i) w ≡ None
  stops e = one ∙ ap (option_and_then (walked digest blob (n - (i + 1)))) (sym e)

  pub steps : (v : Walk) → Some v ≡ entry_walked digest blob w → walked digest blob (n - (i + 1)) v ≡ walked digest blob (n - i) w
  steps v e = sym (one ∙ ap (option_and_then (walked digest blob (n - (i + 1)))) (sym e))

pub ends : (digest : List ℕ → List ℕ) (blob : List ℕ) (n i : ℕ) (w : Walk) → n ≤ i → walked digest blob (n - i) w ≡ Some w
ends digest blob n i w h =
    let e : n - i ≡ 0 = omega arith in
    ap (λ (k : ℕ). walked digest blob k w) e

-- the walk has gone on from i, and is in the blob
abbrev Ahead : List ℕ → ℕ → Option Walk → Type 0
Ahead blob i None = Unit {0}
Ahead blob i (Some v) = (i ≤ v.at) × (v.at ≤ length blob)

module _ (digest : List ℕ → List ℕ) (blob : List ℕ) where
  further : (i j : ℕ) (o : Option Walk) → i ≤ j → Ahead blob j o → Ahead blob i o
  further i j None h a = tt
  further i j (Some v) h a = (omega arith, a.1)

  entry_ahead : (w : Walk) → Ahead blob w.at (entry_walked digest blob w)
  entry_ahead w =
      cond_both (nat_le (w.at + 2) (length blob) && nat_le (w.at + 2 + word blob w.at 2) (length blob)) _ _ (Ahead blob w.at)
      (λ e. (omega arith, leb-true _ _ (and_parts (nat_le (w.at + 2) (length blob)) _ e).1))
      (λ e. tt)

  onward_ahead : (f : Walk → Option Walk) → ((v : Walk) → v.at ≤ length blob → Ahead blob v.at (f v)) → (i : ℕ) (o : Option Walk) → Ahead blob i o → Ahead blob i (option_and_then f o)
  onward_ahead f h i None a = tt
  onward_ahead f h i (Some v) a = further i v.at (f v) a.0 (h v a.1)

  walked_ahead : (n : ℕ) (w : Walk) → w.at ≤ length blob → Ahead blob w.at (walked digest blob n w)
  walked_ahead zero w h = (omega arith, h)
  walked_ahead (suc n) w h =
      onward_ahead (walked digest blob n) (walked_ahead n) w.at (entry_walked digest blob w) (entry_ahead w)

  ends_inside : (o : Option Walk) → Ahead blob (head_length blob + 2) o → Inside blob (option_map (listed_ends blob) o)
  ends_inside None a = tt
  ends_inside (Some v) a = (omega arith, a.1)

  pub listed_inside : Inside blob (listed_reads digest blob)
  listed_inside =
      cond_both (nat_le (head_length blob + 2) (length blob)) _ _ (Inside blob)
      (λ e. ends_inside _ (walked_ahead (word blob (head_length blob) 2) (walk_start digest blob) (leb-true _ _ e)))
      (λ e. tt)
