-- What a scan of a roster's keys tells of the list of their bytes.
use Rattle.std.proofs.Common.{◌≡◌, ℕ, zero, suc, ◌+◌, ◌<◌, Bool, true, false, cond, ◌&&◌, List, [], ◌∷◌, length, get_or, not, Some, None, refl, ap, sym, ◌∙◌, add-one, arith}
use Rattle.std.proofs.lemmas.Bool.Decides.{nat_tests}
use Rattle.std.specs.Cmp.Lexicographic.{lists_agrees, pointwise, slice_partial_cmp, texts_ties}
use Rattle.std.specs.List.{IsAllAdjacentAnswer, position, prefix_len}
use Rattle.std.specs.Option.{option_map}
use Rattle.std.specs.Ordering.{is_eq, is_lt, is_some_and, nat_cmp, partial_lt}
use Rattle.std.specs.Prelude.{nat_eq, nat_lt}
use Rattle.register.specs.ByteOrder.{slice_order}
use Rattle.register.specs.Order.{order}
use Rattle.register.specs.declared.key.Key.{Key}
use Rattle.rosters.specs.Sound.{all_bytes, ascending, index}

-- `==` of two keys
pub equal_is : (a b : List ℕ) → pointwise nat_eq a b ≡ is_eq (order a b)
equal_is a b = texts_ties a b ∙ ap is_eq (slice_order a b)

-- the first place with the key k, as `position` counts it
step : (b : Bool) (n l : ℕ) → cond (nat_lt (cond (not b) (1 + n) 0) (suc l)) (Some (cond (not b) (1 + n) 0)) None ≡ cond b (Some 0) (option_map suc (cond (nat_lt n l) (Some n) None))
step true n l = grind (arith, nat_tests)
step false n l = grind (arith, nat_tests)

pub position_is : (k : List ℕ) (ks : List Key) → position (λ (l : Key). pointwise nat_eq l.bytes k) ks ≡ index k (all_bytes ks)
position_is k [] = refl
position_is k (l ∷ ks) =
    let p : Key → Bool = λ (m : Key). pointwise nat_eq m.bytes k in
    step (p l) (prefix_len (λ m. not (p m)) ks) (length ks) ∙ ap (λ b. cond b (Some 0) (option_map suc (position p ks))) (equal_is l.bytes k) ∙ ap (λ o. cond (is_eq (order l.bytes k)) (Some 0) (option_map suc o)) (position_is k ks)

-- `<` of two keys
abbrev pub less : Key → Key → Bool
less a b = partial_lt (slice_partial_cmp (λ x y. Some (nat_cmp x y))) a.bytes b.bytes

less_is : (a b : Key) → less a b ≡ is_lt (order a.bytes b.bytes)
less_is a b = ap (is_some_and is_lt) (lists_agrees {R = nat_cmp} (λ x y. refl) a.bytes b.bytes) ∙ ap is_lt (slice_order a.bytes b.bytes)

up : (ks : List Key) → ((i : ℕ) (d : Key) → suc i < length ks → true ≡ less (get_or ks i d) (get_or ks (suc i) d)) → ascending (all_bytes ks) ≡ true
up [] h = refl
up (k ∷ []) h = refl
up (k ∷ l ∷ ks) h =
    let rest = up (l ∷ ks) (λ i d lt. h (suc i) d (omega arith)) in
    ap (λ b. b && ascending (all_bytes (l ∷ ks))) (sym (h 0 l (omega arith) ∙ less_is k l)) ∙ rest

none_after : (b : Bool) → (b && false) ≡ false
none_after true = refl
none_after false = refl

down : (ks : List Key) (i : ℕ) → suc i < length ks → ((d : Key) → false ≡ less (get_or ks i d) (get_or ks (suc i) d)) → ascending (all_bytes ks) ≡ false
down [] i lt f = absurd (omega arith)
down (k ∷ []) i lt f = absurd (omega arith)
down (k ∷ l ∷ ks) zero lt f = ap (λ b. b && ascending (all_bytes (l ∷ ks))) (sym (f l ∙ less_is k l))
down (k ∷ l ∷ ks) (suc i) lt f =
    ap (λ b. is_lt (order k.bytes l.bytes) && b) (down (l ∷ ks) i (omega arith) f) ∙ none_after (is_lt (order k.bytes l.bytes))

-- an answer on each key and the next
pub rises_is : (ks : List Key) (r : Bool) → IsAllAdjacentAnswer (λ a b t. t ≡ less a b) ks r → r ≡ ascending (all_bytes ks)
rises_is ks true h = sym (up ks (λ i d lt. simp add-one at (h i d (omega arith))))
rises_is ks false h = sym (down ks h.0 (omega (arith, h.1)) (λ d. simp add-one at (h.2 d)))
