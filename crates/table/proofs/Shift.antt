-- What a turn by one place leaves of a slice: an entry more among the first n, or an entry fewer.
use Rattle.std.proofs.Common.{◌≡◌, ℕ, ◌+◌, ◌-◌, ◌<◌, ◌≤◌, List, [], ◌∷◌, ◌++◌, length, get_or, take, drop, set, sym, refl, ap, ◌∙◌, not-suc-le-zero, add-one, arith, length-append, length-drop, length-set, length-take-le, take-take, take_at, drop-set-lt, drop_at}
use borrow.Rule.Slice.PartMut.{put_mid}
use Rattle.std.proofs.lemmas.List.{take_more_set, drop_more, append_assoc, get_or_at, get_or-take, take-set-le, drop-append-le}
use Rattle.std.proofs.lemmas.List.Edits.{length-remove}
use Rattle.std.proofs.lemmas.Slice.{between_is, take-put_mid, drop-put_mid}
use Rattle.std.specs.List.{between, insert, remove}

-- what `rotate_right(1)` and `rotate_left(1)` leave
abbrev pub last_first : {E : Type 0} → List E → List E
last_first xs = drop (length xs - 1) xs ++ take (length xs - 1) xs

abbrev pub first_last : {E : Type 0} → List E → List E
first_last xs = drop 1 xs ++ take 1 xs

last_first_push : {E : Type 0} (xs : List E) (e : E) → last_first (xs ++ (e ∷ [])) ≡ e ∷ xs
last_first_push xs e =
    let n : length (xs ++ (e ∷ [])) - 1 ≡ length xs = omega (arith, length-append xs (e ∷ [])) in
    rw n (rw (drop_at xs (e ∷ []) (length xs) refl, take_at xs (e ∷ []) (length xs) refl) refl)

-- an entry of a list that has one
pub some_of : {E : Type 0} (xs : List E) → 0 < length xs → E
some_of [] h = absurd (not-suc-le-zero h)
some_of (x ∷ xs) h = x

module _ {E : Type 0} (xs : List E) (i n : ℕ) where
  module _ (e : E) (le : i ≤ n) (lt : n < length xs) where
    front : length (take n xs) ≡ n
    front = length-take-le n xs (omega arith)

    turned : last_first (between i (n + 1) (set xs n e)) ≡ e ∷ drop i (take n xs)
    turned =
        ap last_first (between_is (set xs n e) i (n + 1) ∙ ap (drop i) (take_more_set xs n e lt) ∙ drop-append-le i (take n xs) (e ∷ []) (let f = front in omega arith)) ∙ last_first_push (drop i (take n xs)) e

    long : length (e ∷ drop i (take n xs)) ≡ n + 1 - i
    long = let f = front in omega (arith, length-drop i (take n xs))

    pub take_turned_in : (part : List E) → part ≡ last_first (between i (n + 1) (set xs n e)) → take (n + 1) (put_mid i (n + 1 - i) (set xs n e) part) ≡ insert (take n xs) i e
    take_turned_in part is =
        let p : part ≡ e ∷ drop i (take n xs) = is ∙ turned in
        let l : length part ≡ n + 1 - i = ap length p ∙ long in
        let s = length-set xs n e in
        take-put_mid i (n + 1 - i) (set xs n e) part (n + 1) (omega arith) (omega arith) ∙ ap (λ z. take i (set xs n e) ++ z) p ∙ ap (λ z. z ++ e ∷ drop i (take n xs)) (take-set-le i xs n e le ∙ sym (take-take i n xs le))

    pub drop_turned_in : (part : List E) → part ≡ last_first (between i (n + 1) (set xs n e)) → drop (n + 1) (put_mid i (n + 1 - i) (set xs n e) part) ≡ drop (n + 1) xs
    drop_turned_in part is =
        let l : length part ≡ n + 1 - i = ap length (is ∙ turned) ∙ long in
        let s = length-set xs n e in
        drop-put_mid i (n + 1 - i) (set xs n e) part (n + 1) (omega arith) (omega arith) l ∙ drop-set-lt (n + 1) xs n e (omega arith)

  module _ (lt : i < n) (le : n ≤ length xs) (x : E) where
    held : length (take n xs) ≡ n
    held = length-take-le n xs le

    moved : first_last (between i n xs) ≡ drop (i + 1) (take n xs) ++ (get_or (take n xs) i x ∷ [])
    moved = let f = held in ap first_last (between_is xs i n ∙ drop_more (take n xs) i x (omega arith))

    short : length (drop (i + 1) (take n xs) ++ (get_or (take n xs) i x ∷ [])) ≡ n - i
    short = let f = held in omega (arith, length-append (drop (i + 1) (take n xs)) (get_or (take n xs) i x ∷ []), length-drop (i + 1) (take n xs))

    -- the first n after the turn: without the entry at i, which stands at the end
    whole : (part : List E) → part ≡ first_last (between i n xs) → take n (put_mid i (n - i) xs part) ≡ remove (take n xs) i ++ (get_or (take n xs) i x ∷ [])
    whole part is =
        let p = is ∙ moved in
        let l : length part ≡ n - i = ap length p ∙ short in
        take-put_mid i (n - i) xs part n (omega arith) (omega arith) ∙ ap (λ z. take i xs ++ z) p ∙ sym (append_assoc (take i xs) (drop (i + 1) (take n xs)) (get_or (take n xs) i x ∷ [])) ∙ ap (λ z. z ++ drop (i + 1) (take n xs) ++ (get_or (take n xs) i x ∷ [])) (sym (take-take i n xs (omega arith))) ∙ ap (λ m. take i (take n xs) ++ drop m (take n xs) ++ (get_or (take n xs) i x ∷ [])) (add-one i)

    left : length (remove (take n xs) i) ≡ n - 1
    left = let f = held in omega (arith, length-remove (take n xs) i (omega arith))

    pub take_turned_out : (part : List E) → part ≡ first_last (between i n xs) → take (n - 1) (put_mid i (n - i) xs part) ≡ remove (take n xs) i
    take_turned_out part is =
        sym (take-take (n - 1) n (put_mid i (n - i) xs part) (omega arith)) ∙ ap (take (n - 1)) (whole part is) ∙ take_at (remove (take n xs) i) (get_or (take n xs) i x ∷ []) (n - 1) left

    pub last_turned_out : (part : List E) → part ≡ first_last (between i n xs) → get_or (put_mid i (n - i) xs part) (n - 1) x ≡ get_or xs i x
    last_turned_out part is =
        sym (get_or-take n (put_mid i (n - i) xs part) (n - 1) x (omega arith)) ∙ ap (λ z. get_or z (n - 1) x) (whole part is) ∙ get_or_at (remove (take n xs) i) (get_or (take n xs) i x) [] x (n - 1) left ∙ get_or-take n xs i x lt

    pub drop_turned_out : (part : List E) → part ≡ first_last (between i n xs) → drop n (put_mid i (n - i) xs part) ≡ drop n xs
    drop_turned_out part is =
        drop-put_mid i (n - i) xs part n (omega arith) (omega arith) (ap length (is ∙ moved) ∙ short)
