-- A text n times over: std's word puts the first one in front, ours the last one behind.
use Rattle.std.proofs.Common.{◌≡◌, ℕ, zero, suc, List, ◌++◌, refl, sym, ap, ◌∙◌, append-nil, append_assoc}
use Rattle.std.specs.List.{repeat}
use Rattle.vectors.specs.Messages.{repeated}

behind : (n : ℕ) (text : List ℕ) → text ++ repeat n text ≡ repeat n text ++ text
behind zero text = append-nil text
behind (suc n) text = ap (λ t. text ++ t) (behind n text) ∙ sym (append_assoc text (repeat n text) text)

pub same : (n : ℕ) (text : List ℕ) → repeat n text ≡ repeated n text
unfolding repeated
same zero text = refl
same (suc n) text = behind n text ∙ ap (λ t. t ++ text) (same n text)
