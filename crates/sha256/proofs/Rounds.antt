-- Rounds over a window of the message schedule are the rounds of the standard.
use Rattle.std.proofs.Common.{◌≡◌, ℕ, zero, suc, ◌+◌, ◌-◌, ◌*◌, ◌<◌, ◌≤◌, List, [], ◌∷◌, map, length, get_or, sym, refl, ap, ◌∙◌, ⊎_elim, add-zero, add-suc, suc-add, zero-add, arith}
use Rattle.std.specs.List.{range_with_len}
use Rattle.std.proofs.lemmas.List.{get_or_append_left, get_or_at, length_push}
use Rattle.std.proofs.lemmas.List.FromFn.{get_or-map-range_with_len, length-map-range_with_len}
use Rattle.std.proofs.lemmas.Bool.{cases_lt}
use Rattle.sha256.specs.Fips180.{K, next, round, rounds, schedule}
use Rattle.sha256.specs.Window.{rounds_over, slid, slide}

pub first : (t : ℕ) (w s : List ℕ) {y : List ℕ} → y ≡ round (get_or K t 0) (get_or w 0 0) s → y ≡ rounds_over 1 t w s
unfolding rounds_over
first t w s e = simp add-zero e

pub more : (n t : ℕ) (w s : List ℕ) {x y : List ℕ} → x ≡ rounds_over n t w s
    → y ≡ round (get_or K (t + n) 0) (get_or w n 0) x → y ≡ rounds_over (suc n) t w s
unfolding rounds_over
more n t w s p e = cc

-- the schedule holds the sixteen words that it starts from, and one more for each step
pub length-schedule : (t : ℕ) (M : List ℕ) → length M ≡ 16 → length (schedule t M) ≡ t + 16
unfolding schedule
length-schedule zero M e = e ∙ sym (zero-add 16)
length-schedule (suc t) M e =
    let h = length-schedule t M e in
    length_push (schedule t M) _ ∙ omega arith

-- a step of the schedule keeps the words before
kept : (t k : ℕ) (M : List ℕ) → length M ≡ 16 → k < t + 16 → get_or (schedule (suc t) M) k 0 ≡ get_or (schedule t M) k 0
unfolding schedule
kept t k M e h = get_or_append_left (schedule t M) _ 0 k (omega (arith, length-schedule t M e))

last : (t : ℕ) (M : List ℕ) → length M ≡ 16 → get_or (schedule (suc t) M) (t + 16) 0 ≡ next (t + 16) (schedule t M)
unfolding schedule
last t M e = get_or_at (schedule t M) _ [] 0 (t + 16) (length-schedule t M e)

pub stable : (j t k : ℕ) (M : List ℕ) → length M ≡ 16 → k < t + 16
    → get_or (schedule (j + t) M) k 0 ≡ get_or (schedule t M) k 0
stable zero t k M e h = simp zero-add
stable (suc j) t k M e h = simp suc-add (kept (j + t) k M e (omega arith) ∙ stable j t k M e h)

-- the next word depends on four of the sixteen before
next_same : (t : ℕ) (V W : List ℕ) → ((n : ℕ) → n < 16 → get_or V n 0 ≡ get_or W (t + n) 0) → next 16 V ≡ next (t + 16) W
unfolding next
next_same t V W same =
    let a : t + 16 - 2 ≡ t + 14 = omega arith in
    let b : t + 16 - 7 ≡ t + 9 = omega arith in
    let d : t + 16 - 15 ≡ t + 1 = omega arith in
    let e : t + 16 - 16 ≡ t + 0 = omega arith in
    simp (a, b, d, e, same 14 (omega arith), same 9 (omega arith), same 1 (omega arith), same 0 (omega arith))

slide-below : (w : List ℕ) (n : ℕ) → n < 15 → get_or (slide w) n 0 ≡ get_or w (n + 1) 0
unfolding slide
slide-below w n h =
    get_or_append_left (map (λ j. get_or w (j + 1) 0) (range_with_len 0 15)) (next 16 w ∷ []) 0 n (omega (arith, length-map-range_with_len (λ j. get_or w (j + 1) 0) 0 15))
    ∙ get_or-map-range_with_len (λ j. get_or w (j + 1) 0) 0 15 n n 0 h (zero-add n)

slide_last : (w : List ℕ) → get_or (slide w) 15 0 ≡ next 16 w
unfolding slide
slide_last w = refl

schedule_start : (n : ℕ) (M : List ℕ) → get_or M n 0 ≡ get_or (schedule zero M) n 0
unfolding schedule
schedule_start n M = refl

-- the window after t steps is the schedule from W t on
pub window : (t n : ℕ) (M : List ℕ) → length M ≡ 16 → n < 16 → get_or (slid t M) n 0 ≡ get_or (schedule t M) (t + n) 0
unfolding slid
window zero n M e h = simp zero-add (schedule_start n M)
window (suc t) n M e h =
    ⊎_elim
    (λ below.
    slide-below (slid t M) n below ∙ window t (n + 1) M e (omega arith)
    ∙ ap (λ i. get_or (schedule t M) i 0) (index n)
    ∙ sym (kept t (suc t + n) M e (omega arith)))
    (λ top.
    let is : n ≡ 15 = omega arith in
    ap (λ k. get_or (slide (slid t M)) k 0) is ∙ slide_last (slid t M)
    ∙ next_same t (slid t M) (schedule t M) (λ k l. window t k M e l)
    ∙ sym (last t M e)
    ∙ ap (λ i. get_or (schedule (suc t) M) i 0) (top-index n is))
    (cases_lt n 15)
  where
    index : (k : ℕ) → t + (k + 1) ≡ suc t + k
    index k = omega arith

    top-index : (k : ℕ) → k ≡ 15 → t + 16 ≡ suc t + k
    top-index k p = omega arith

-- rounds over a window that agrees with the schedule W from W t on
over_is : (n t : ℕ) (w W H : List ℕ) → ((k : ℕ) → k < n → get_or w k 0 ≡ get_or W (t + k) 0)
    → rounds_over n t w (rounds t W H) ≡ rounds (t + n) W H
unfolding rounds_over rounds
over_is zero t w W H same = simp add-zero
over_is (suc n) t w W H same =
    let here = same n (omega arith) in
    let before = over_is n t w W H (λ k l. same k (omega arith)) in
    simp (add-suc, here, before)

pub sixteen_more : (t : ℕ) (M H : List ℕ) → length M ≡ 16 → t ≤ 48
    → rounds_over 16 t (slid t M) (rounds t (schedule 48 M) H) ≡ rounds (t + 16) (schedule 48 M) H
sixteen_more t M H e h =
    over_is 16 t (slid t M) (schedule 48 M) H (λ k l. window t k M e l ∙ sym (later k l))
  where
    all : 48 - t + t ≡ 48
    all = omega arith

    later : (k : ℕ) → k < 16 → get_or (schedule 48 M) (t + k) 0 ≡ get_or (schedule t M) (t + k) 0
    later k l = simp all at (stable (48 - t) t (t + k) M e (omega arith))

-- steps of the window add up
pub slid_more : (n t : ℕ) (M : List ℕ) → slid n (slid t M) ≡ slid (t + n) M
unfolding slid
slid_more zero t M = simp add-zero
slid_more (suc n) t M = simp (add-suc, slid_more n t M)

-- one turn of the loop over sixteen rounds
pub rounds_turn : (i : ℕ) (M H : List ℕ) {w s r : List ℕ} → length M ≡ 16 → i < 4
    → s ≡ rounds (16 * i) (schedule 48 M) H → w ≡ slid (16 * i) M → r ≡ rounds_over 16 (16 * i) w s
    → r ≡ rounds (16 * (i + 1)) (schedule 48 M) H
rounds_turn i M H e h s-is w-is r-is =
    let step = sixteen_more (16 * i) M H e (omega arith) in
    let at : 16 * (i + 1) ≡ 16 * i + 16 = omega arith in
    cc

pub slide_turn : (i : ℕ) (M : List ℕ) {w r : List ℕ} → w ≡ slid (16 * i) M → r ≡ slid 16 w → r ≡ slid (16 * (i + 1)) M
slide_turn i M w-is r-is =
    let step = slid_more 16 (16 * i) M in
    let at : 16 * (i + 1) ≡ 16 * i + 16 = omega arith in
    cc
