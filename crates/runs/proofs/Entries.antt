-- Tables under byte strings and under numbers: an entry in the place of another, and the window.
use Rattle.std.proofs.Common.{◌≡◌, ℕ, suc, ◌<◌, ◌≤◌, ltb, List, [], ◌∷◌, map, length, IfSome, Some, None, Option, Equal, sym, refl, ◌∙◌, arith}
use Rattle.std.proofs.lemmas.Bool.{cond_both, ltb-false, ltb-true}
use Rattle.std.proofs.lemmas.Bool.Decides.{nat_tests}
use Rattle.std.proofs.lemmas.List.{length-map}
use Rattle.std.specs.Cmp.{IsTotalOrder, nat_cmp_total}
use Rattle.std.specs.Option.{option_map}
use Rattle.std.specs.List.{AllByRecursion}
use Rattle.register.specs.ByteOrder.{order_same, order_total}
use Rattle.register.specs.Order.{order}
use Rattle.register.specs.declared.counters.Round.{Round}
use Rattle.table.proofs.Carried.{all_without, length-without, map-without}
use Rattle.table.proofs.Lawful.{all_looks, changed_ascends, changed_others, changed_own, found_exactly, table_laws}
use Rattle.table.proofs.Orders.{by_order}
use Rattle.table.specs.Laws.{Ascends, Laws, look}
use Rattle.table.specs.Table.{changed, without}
use Rattle.model.specs.Window.{leaves, lower_of, lowest, trimmed}
use Rattle.std.specs.Ordering.{nat_cmp}

-- what holds of an option, from each of its two forms with the equation that led there
pub by_option : {X : Type 0} (P : Option X → Type 0) (o : Option X) → (o ≡ None → P None) → ((x : X) → o ≡ Some x → P (Some x)) → P o
by_option P None n s = n refl
by_option P (Some x) n s = s x refl

-- the order of byte strings, and that of numbers
pub byte_laws : IsTotalOrder order
byte_laws = order_total

pub number_laws : IsTotalOrder nat_cmp
number_laws = nat_cmp_total

pub number_same : (a b : ℕ) → nat_cmp a b ≡ Equal → a ≡ b
number_same a b h = grind (arith, nat_tests)

pub differ : (a b : List ℕ) → (a ≡ b → ⊥) → order a b ≡ Equal → ⊥
differ a b h e = h (order_same a b e)

-- lists under byte strings: what is found has the key, and the laws of the changes
module _ {E : Type 0} (key : E → List ℕ) where
  pub entry_laws : Laws order key
  entry_laws = table_laws order key byte_laws

  pub found_key : (k : List ℕ) (xs : List E) (e : E) → look order key k xs ≡ Some e → key e ≡ k
  found_key k xs e h = found_exactly order key byte_laws order_same k xs e h

  keeps : (e x : E) → order (key x) (key e) ≡ Equal → key e ≡ key x
  keeps e x q = sym (order_same (key x) (key e) q)

  -- an entry in the place of the one that is found
  pub replaced-found : (e : E) (xs : List E) (x : E) → look order key (key e) xs ≡ Some x → look order key (key e) (changed order key (λ _. e) (key e) xs) ≡ Some e
  replaced-found e xs x h = grind (arith, changed_own, byte_laws, keeps)

  -- putting an entry in the place of that with the same key leaves the others and the order
  pub replaced_others : (e : E) (j : List ℕ) (xs : List E) → (key e ≡ j → ⊥) → look order key j (changed order key (λ _. e) (key e) xs) ≡ look order key j xs
  replaced_others e j xs h = grind (arith, changed_others, byte_laws, keeps, differ)

  pub replaced_ascends : (e : E) (xs : List E) → Ascends order key xs → Ascends order key (changed order key (λ _. e) (key e) xs)
  replaced_ascends e xs up = grind (arith, changed_ascends, byte_laws, keeps)

-- the window
module _ {E : Type 0} (round : E → Round) (key : E → List ℕ) where
  lower_all : (P : E → Type 0) (x : E) (o : Option E) → P x → IfSome o P → P (lower_of round key x o)
  lower_all P x o h rest = grind arith

  pub all_lowest : (P : E → Type 0) (xs : List E) → AllByRecursion P xs → IfSome (lowest round key xs) P
  all_lowest P [] all = tt
  all_lowest P (x ∷ xs) all = grind (arith, lower_all, all_lowest P xs all.1)

  -- what a trim leaves: the list, or the list without one that was there
  pub trimmed_either : (Q : List E → Type 0) (window : ℕ) (xs : List E) → Ascends order key xs → (length xs ≤ window → Q xs) → ((x : E) → window < length xs → look order key (key x) xs ≡ Some x → Q (without order key (key x) xs)) → Q (trimmed round key window xs)
  trimmed_either Q window xs up few many =
      cond_both (ltb window (length xs)) (leaves round key (lowest round key xs) xs) xs Q
      (λ t.
      let more = ltb-true window (length xs) t in
      by_option (λ o. IfSome o (λ x. look order key (key x) xs ≡ Some x) → lowest round key xs ≡ o → Q (leaves round key o xs)) (lowest round key xs)
      (λ n _ _. gone xs n more)
      (λ x e found _. many x more found)
      (all_lowest (λ x. look order key (key x) xs ≡ Some x) xs (all_looks order key byte_laws xs up)) refl)
      (λ f. few (ltb-false window (length xs) f))
    where
      gone : (ys : List E) → lowest round key ys ≡ None → window < length ys → Q xs
      gone [] n more = absurd (omega arith)
      gone (y ∷ ys) n more = cc

  pub trimmed_few : (window : ℕ) (xs : List E) → length xs ≤ window → trimmed round key window xs ≡ xs
  trimmed_few window xs few = grind arith

  leaves_all : (P : E → Type 0) (o : Option E) (xs : List E) → AllByRecursion P xs → AllByRecursion P (leaves round key o xs)
  leaves_all P None xs all = all
  leaves_all P (Some x) xs all = grind (arith, all_without)

  pub all_trimmed : (P : E → Type 0) (window : ℕ) (xs : List E) → AllByRecursion P xs → AllByRecursion P (trimmed round key window xs)
  all_trimmed P window xs all = grind (arith, leaves_all)

  pub trimmed_ascends : (window : ℕ) (xs : List E) → Ascends order key xs → Ascends order key (trimmed round key window xs)
  trimmed_ascends window xs up =
      trimmed_either (Ascends order key) window xs up (λ _. up) (λ x _ _. (entry_laws key).without_ascends (key x) xs up)

  -- one too many is one less
  pub trimmed-length : (window : ℕ) (xs : List E) → Ascends order key xs → length xs ≤ suc window → length (trimmed round key window xs) ≤ window
  trimmed-length window xs up few =
      trimmed_either (λ ys. length ys ≤ window) window xs up (λ h. h)
      (λ x more found. grind (arith, length-without))

  -- what is found in the end was found before
  pub trimmed-look : (window : ℕ) (c : List ℕ) (xs : List E) (e : E) → Ascends order key xs → look order key c (trimmed round key window xs) ≡ Some e → look order key c xs ≡ Some e
  trimmed-look window c xs e up =
      trimmed_either (λ ys. look order key c ys ≡ Some e → look order key c xs ≡ Some e) window xs up (λ _ h. h)
      (λ x _ _ h.
      by_order (order (key x) c)
      (λ l. sym ((entry_laws key).without_others (key x) c xs up (λ q. cc)) ∙ h)
      (λ q. let gone = (entry_laws key).without_gone (key x) xs up in cc (order_same (key x) c q))
      (λ m. sym ((entry_laws key).without_others (key x) c xs up (λ q. cc)) ∙ h))

module _ {E F : Type 0} (round : F → Round) (key : F → List ℕ) (g : E → F) where
  map_lower_of : (x : E) (o : Option E) → g (lower_of (λ y. round (g y)) (λ y. key (g y)) x o) ≡ lower_of round key (g x) (option_map g o)
  map_lower_of x o = grind arith

  map-lowest : (xs : List E) → option_map g (lowest (λ y. round (g y)) (λ y. key (g y)) xs) ≡ lowest round key (map g xs)
  map-lowest [] = refl
  map-lowest (x ∷ xs) = grind (arith, map_lower_of, map-lowest xs)

  map-leaves : (o : Option E) (xs : List E) → map g (leaves (λ y. round (g y)) (λ y. key (g y)) o xs) ≡ leaves round key (option_map g o) (map g xs)
  map-leaves None xs = refl
  map-leaves (Some x) xs = grind (arith, map-without)

  pub map-trimmed : (window : ℕ) (xs : List E) → map g (trimmed (λ y. round (g y)) (λ y. key (g y)) window xs) ≡ trimmed round key window (map g xs)
  map-trimmed window xs = grind (arith, length-map, map-leaves, map-lowest)
