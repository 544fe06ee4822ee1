-- A table with room turns an entry down only where its key is there.
use Rattle.std.proofs.Common.{◌≡◌, ℕ, ◌<◌, true, Ok, Err, Result, refl, arith}
use Rattle.std.proofs.lemmas.Bool.{le-ltb, lt-ltb}
use Rattle.table.specs.Answers.{admits, inserts}
use Rattle.table.specs.declared.Refusal.{Refusal}

present_only : (at : Result ℕ ℕ) (e : Refusal) → Err e ≡ admits true at → (i : ℕ) × (at ≡ Ok i)
present_only (Ok i) e h = (i, refl)
present_only (Err i) e h = absurd (let z : ◌≡◌ {A = ℕ} 0 1 = cc in omega arith)

pub turned_down : (count slots : ℕ) (at : Result ℕ ℕ) (e : Refusal) → count < slots → Err e ≡ inserts count slots at → (i : ℕ) × (at ≡ Ok i)
turned_down count slots at e h was =
    let a = le-ltb slots count (omega arith) in
    let b = lt-ltb count slots h in
    present_only at e (simp (a, b) at was)
