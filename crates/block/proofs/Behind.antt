-- What stands behind a written block does not matter. Assumes nothing.
use Rattle.std.proofs.Common.{◌≡◌, ℕ, List, ◌++◌, take, drop, Option, sym, ap, ◌∙◌, take-append-drop}

pub alone_from : {A : Type 0} (reads : List ℕ → Option A) (blob block rest : List ℕ) (n : ℕ) (q r : Option A) → take n blob ≡ block → ((any : List ℕ) → reads (block ++ any) ≡ q) → reads blob ≡ r → reads (take n blob ++ rest) ≡ r
alone_from reads blob block rest n q r form back e =
    ap (λ (xs : List ℕ). reads (xs ++ rest)) form
    ∙ back rest
    ∙ sym (back (drop n blob))
    ∙ ap (λ (xs : List ℕ). reads (xs ++ drop n blob)) (sym form)
    ∙ ap reads (take-append-drop n blob)
    ∙ e
