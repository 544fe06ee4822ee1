-- The message schedule kept as a window of 16 words, and rounds over such a window.
use Rattle.std.specs.Prelude.{ℕ, zero, suc, ◌+◌, List, [], ◌∷◌, ◌++◌, map, slice_index}
use Rattle.std.specs.List.{range_with_len}
use Rattle.sha256.specs.Fips180.{K, next, round}

-- W t to W (t + 15) moved on to W (t + 1) to W (t + 16)
unfoldable pub slide : List ℕ → List ℕ
slide w = map (λ j. slice_index w (j + 1)) (range_with_len 0 15) ++ next 16 w ∷ []

unfoldable pub slid : ℕ → List ℕ → List ℕ
slid zero w = w
slid (suc n) w = slide (slid n w)

-- n rounds from round t on, where w starts at W t
unfoldable pub rounds_over : ℕ → ℕ → List ℕ → List ℕ → List ℕ
rounds_over zero t w s = s
rounds_over (suc n) t w s = round (slice_index K (t + n)) (slice_index w n) (rounds_over n t w s)
