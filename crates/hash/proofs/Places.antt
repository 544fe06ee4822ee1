-- The bytes of an array that was read from a place, by their places in the whole.
use Rattle.std.proofs.Common.{◌≡◌, ℕ, ◌+◌, ◌<◌, List, take, drop, get_or, ap, ◌∙◌}
use Rattle.std.proofs.lemmas.List.{get_or-drop, get_or-take}

pub array_byte : (n at k : ℕ) (bytes xs : List ℕ) → xs ≡ take n (drop at bytes) → k < n → get_or xs k 0 ≡ get_or bytes (at + k) 0
array_byte n at k bytes xs e h =
    ap (λ l. get_or l k 0) e ∙ get_or-take n (drop at bytes) k 0 h ∙ get_or-drop at bytes k 0
