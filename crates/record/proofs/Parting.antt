-- A table behind the first entries of a list: what the whole list holds once the table has changed.
use Rattle.std.proofs.Common.{◌≡◌, ℕ, ◌+◌, ◌-◌, ◌≤◌, List, ◌++◌, length, take, drop, sym, ap, ◌∙◌, arith, length-take, take-take, drop_at}
use borrow.Rule.Slice.PartMut.{post_of, put_mid}
use Rattle.std.proofs.Math.Seq.{drop-append-add}
use Rattle.std.proofs.lemmas.List.{drop-append-le, drop-drop, drop-take, take-append-drop, take-append-le}
use Rattle.std.proofs.lemmas.Slice.{between_is}

module _ {X : Type 0} (a k : ℕ) (xs ys : List X) (inside : a ≤ length xs) where
  pub behind_front : (r : ℕ) → r ≤ length ys → drop a (take (a + r) (put_mid a k xs ys)) ≡ take r ys
  behind_front r h =
      let front : length (take a xs) ≡ a = simp length-take (omega arith) in
      drop-take a r (put_mid a k xs ys) ∙ ap (take r) (drop_at (take a xs) (ys ++ post_of a k xs) a front) ∙ take-append-le r ys (post_of a k xs) h

  -- where the part stays from r on, so does the whole list
  pub behind_part : (r : ℕ) → r ≤ length ys → r ≤ length (take k (drop a xs)) → drop r ys ≡ drop r (take k (drop a xs)) → drop (a + r) (put_mid a k xs ys) ≡ drop (a + r) xs
  behind_part r h l same =
      let front : length (take a xs) ≡ a = simp length-take (omega arith) in
      let post = post_of a k xs in
      ap (λ m. drop (m + r) (put_mid a k xs ys)) (sym front)
      ∙ drop-append-add (take a xs) (ys ++ post) r
      ∙ drop-append-le r ys post h
      ∙ ap (λ zs. zs ++ post) same
      ∙ sym (drop-append-le r (take k (drop a xs)) post l)
      ∙ ap (drop r) (take-append-drop k (drop a xs))
      ∙ drop-drop r a xs

-- the first entries of the part, and those of the whole list
pub part_front : {X : Type 0} (a k n : ℕ) (xs : List X) → n - a ≤ k → take (n - a) (take k (drop a xs)) ≡ drop a (take n xs)
part_front a k n xs h = take-take (n - a) k (drop a xs) h ∙ between_is xs a n
