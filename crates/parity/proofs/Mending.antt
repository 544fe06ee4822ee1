-- Any k shards of a blob, at distinct indices, open to it. Assumes nothing.
use Rattle.std.proofs.Common.{◌≡◌, ℕ, ◌+◌, ◌-◌, ◌*◌, ◌/◌, ◌%◌, ◌^◌, ◌<◌, ◌≤◌, Bool, true, false, cond, not, ◌||◌, eqb, ◌⊎◌, List, [], ◌∷◌, map, length, get_or, take, drop, Ok, Err, count_by, sym, refl, ap, ◌∙◌, subst, inl, inr, ⊎_elim, zero-add, arith, get_or-drop, get_or-take, ext_get_or, ne_eqb}
use Rattle.std.proofs.lemmas.Nat.{div-add-mod', div_below, mod_below}
use Rattle.std.proofs.lemmas.List.FromFn.{fill_by_all, get_or-map-range_with_len, length-map-range_with_len}
use Rattle.std.proofs.lemmas.List.Sums.{sum_by-cons}
use Rattle.std.proofs.lemmas.Bool.{cases_Bool, cond_both, cond-false, cond-true, eqb-true}
use Rattle.std.specs.List.{range_with_len, AllByRecursion}
use Rattle.register.specs.declared.commitment.Config.{Config}
use Rattle.scheme.specs.Pieces.{Indexed}
use Rattle.scheme.specs.declared.fault.Fault.TheVariants.{TooFew}
use Rattle.tree.proofs.Framed.{frame_opens, framed_long}
use Rattle.tree.proofs.Standing.{front}
use Rattle.tree.specs.Frames.{framed, piece_length, unframed}
use Rattle.tree.specs.Laws.{Long}
use Rattle.tree.specs.Trees.{depth, payload, shard}
use Rattle.parity.proofs.Erasing.{Partial, even_is, missing_is, width_is}
use Rattle.parity.proofs.Indices.{as_many, has_within}
use Rattle.parity.proofs.Making.{filled, levels_are, limited, payload_long, payloads_long, piece_is, shaped_is, thick, xored_all}
use Rattle.parity.proofs.Reading.{framing-at, length-framing}
use Rattle.parity.proofs.Unframing.{evened}
use Rattle.parity.specs.Codes.{distinct, has, made, payloads}
use Rattle.parity.specs.Parities.{counted, empty, even, framing, mended, opened, parity_opens, pick, picks, shaped, width, xored}

-- one shard more in the search for a pick
pick-step : (d j i : ℕ) (b : List ℕ) (shards : List Indexed) (w : ℕ → List ℕ) (t : Bool) → payload d b ≡ w j → empty (w j) ≡ false → pick d shards i ≡ cond t (w i) [] → pick d (record { index = j; bytes = b } ∷ shards) i ≡ cond (eqb j i || t) (w i) []
pick-step d j i b shards w t p f e =
    ⊎_elim
    (λ (q : eqb j i ≡ true). simp (p, f, q) (ap w (eqb-true j i q)))
    (λ (n : eqb j i ≡ false). simp n e)
    (cases_Bool (eqb j i))

one_step : (t : Bool) (p w : List ℕ) → p ≡ cond t w [] → (t ≡ true → empty w ≡ false) → cond t 1 0 ≤ cond (not (empty p)) 1 0
one_step true p w e f = simp (e, f refl) (omega arith)
one_step false p w e f = omega arith

-- payloads of one length whose exclusive or is nothing, and picks of them at k distinct indices or more
module _ (k s : ℕ) (gs : List (List ℕ)) (js : List ℕ) (at : ℕ → List ℕ) (thick : 0 < s) (size : length gs ≡ k + 1) (lone : (j : ℕ) → j ≤ k → length (get_or gs j []) ≡ s) (none : (i : ℕ) → i < s → xored i gs ≡ 0) (is : (i : ℕ) → at i ≡ cond (has i js) (get_or gs i []) []) (apart : distinct js ≡ true) (low : AllByRecursion (λ j. j ≤ k) js) (many : k ≤ length js) where
  abbrev pub ps : List (List ℕ)
  ps = map at (range_with_len 0 (k + 1))

  ps_long : length ps ≡ k + 1
  ps_long = length-map-range_with_len at 0 (k + 1)

  level : (j : ℕ) → j < length gs → length (get_or gs j []) ≡ s
  level j h = lone j (omega (arith, size))

  partial_on : (xs : List ℕ) → Partial (map at xs) (map (λ i. get_or gs i []) xs)
  partial_on [] = tt
  partial_on (x ∷ xs) = (
    subst (λ (q : List ℕ). (q ≡ []) ⊎ (q ≡ get_or gs x [])) (sym (is x)) (cond_both (has x js) (get_or gs x []) [] (λ (q : List ℕ). (q ≡ []) ⊎ (q ≡ get_or gs x [])) (λ _. inr refl) (λ _. inl refl)),
    partial_on xs,
  )

  part : Partial ps gs
  part = subst (λ (hs : List (List ℕ)). Partial ps hs) (sym (fill_by_all (λ i. get_or gs i []) gs (k + 1) [] size (λ _ _. refl))) (partial_on (range_with_len 0 (k + 1)))

  full : (x : ℕ) → has x js ≡ true → empty (get_or gs x []) ≡ false
  full x h = ne_eqb (length (get_or gs x [])) 0 (λ z. omega (arith, z, lone x (has_within k x js low h)))

  counts : (xs : List ℕ) → count_by (λ i. has i js) xs ≤ counted (map at xs)
  counts [] = omega arith
  counts (x ∷ xs) =
      let b = sum_by-cons (λ i. cond (has i js) 1 0) x xs in
      let c = sum_by-cons (λ (p : List ℕ). cond (not (empty p)) 1 0) (at x) (map at xs) in
      omega (arith, b, c, one_step (has x js) (at x) (get_or gs x []) (is x) (full x), counts xs)

  pub enough : k ≤ counted ps
  enough = omega (arith, as_many k js apart low, counts (range_with_len 0 (k + 1)))

  pub wide : 1 ≤ k → width ps ≡ s
  wide some = width_is s thick ps gs part level (omega (arith, enough))

  pub level_all : even s ps ≡ true
  level_all = even_is s thick ps gs part level

  at_is : (j : ℕ) → j ≤ k → get_or ps j [] ≡ cond (has j js) (get_or gs j []) []
  at_is j h = get_or-map-range_with_len at 0 (k + 1) j j [] (omega arith) (zero-add j) ∙ is j

  mended_is : (j : ℕ) → j ≤ k → mended s ps (get_or ps j []) ≡ get_or gs j []
  mended_is j h =
      ⊎_elim
      (λ (t : has j js ≡ true).
      let e : get_or ps j [] ≡ get_or gs j [] = at_is j h ∙ cond-true (has j js) (get_or gs j []) [] t in
      ap (mended s ps) e ∙ cond-false (empty (get_or gs j [])) (map (λ i. xored i ps) (range_with_len 0 s)) (get_or gs j []) (full j t))
      (λ (t : has j js ≡ false).
      let e : get_or ps j [] ≡ [] = at_is j h ∙ cond-false (has j js) (get_or gs j []) [] t in
      let l : j < length ps = omega (arith, ps_long) in
      let c : length ps ≤ counted ps + 1 = omega (arith, ps_long, enough) in
      ap (mended s ps) e
      ∙ sym (fill_by_all (λ i. xored i ps) (get_or gs j []) s 0 (lone j h) (λ i m. sym (missing_is i ps gs part j l e c (none i m)))))
      (cases_Bool (has j js))

  pub framing_is : (bytes : List ℕ) → length bytes ≡ k * s → ((j : ℕ) → j < k → get_or gs j [] ≡ take s (drop (j * s) bytes)) → framing s ps ≡ bytes
  framing_is bytes l cut =
      let one : length ps - 1 ≡ k = omega (arith, ps_long) in
      let fl : length (framing s ps) ≡ k * s = length-framing s ps level_all ∙ ap (λ (n : ℕ). n * s) one in
      ext_get_or 0 (framing s ps) bytes (fl ∙ sym l)
      (λ i h.
      let m : i < k * s = subst (λ (n : ℕ). i < n) fl h in
      let w : i < (length ps - 1) * s = subst (λ (n : ℕ). i < n * s) (sym one) m in
      let j : i / s < k = div_below i s k thick m in
      framing-at s ps level_all i w
      ∙ ap (λ (p : List ℕ). get_or p (i % s) 0) (mended_is (i / s) (omega arith) ∙ cut (i / s) j)
      ∙ get_or-take s (drop (i / s * s) bytes) (i % s) 0 (mod_below i s thick)
      ∙ get_or-drop (i / s * s) bytes (i % s) 0
      ∙ ap (λ (n : ℕ). get_or bytes n 0) (div-add-mod' i s))

module _ (k : ℕ) (some : 1 ≤ k) (few : k ≤ 63) (blob : List ℕ) (digest : List ℕ → List ℕ) (long : Long digest) where
  payload_is : (j : ℕ) → j ≤ k → payload (depth k) (shard digest (payloads k blob) j) ≡ get_or (payloads k blob) j []
  payload_is j h =
      subst (λ (d : ℕ). payload d (shard digest (payloads k blob) j) ≡ get_or (payloads k blob) j []) (levels_are k some blob few digest long)
      (front digest long (payloads k blob) (limited k some blob few digest long) j (omega (arith, payloads_long k some blob)) (filled k some blob few digest long j h))

  there : (j : ℕ) → j ≤ k → empty (get_or (payloads k blob) j []) ≡ false
  there j h = ne_eqb (length (get_or (payloads k blob) j [])) 0 (λ z. omega (arith, z, filled k some blob few digest long j h))

  pick_is : (js : List ℕ) → AllByRecursion (λ j. j ≤ k) js → (i : ℕ) → pick (depth k) (map (made digest k blob) js) i ≡ cond (has i js) (get_or (payloads k blob) i []) []
  pick_is [] a i = refl
  pick_is (j ∷ js) (a, rest) i =
      pick-step (depth k) j i (shard digest (payloads k blob) j) (map (made digest k blob) js) (λ x. get_or (payloads k blob) x []) (has i js) (payload_is j a) (there j a) (pick_is js rest i)

  pub opens : (fits : length blob < 2 ^ 32) (limit : ℕ) → length blob ≤ limit → (js : List ℕ) → distinct js ≡ true → AllByRecursion (λ j. j ≤ k) js → k ≤ length js → opened limit k (picks k (map (made digest k blob) js)) ≡ Ok blob
  opens fits limit room js apart low many =
      let s : ℕ = piece_length k (length blob) in
      let gs : List (List ℕ) = payloads k blob in
      let at : ℕ → List ℕ = pick (depth k) (map (made digest k blob) js) in
      let t : 0 < s = thick k some blob in
      let n : length gs ≡ k + 1 = payloads_long k some blob in
      let l = payload_long k some blob in
      let x = xored_all k some blob in
      let is = pick_is js low in
      let f = framing_is k s gs js at t n l x is apart low many (framed k blob) (framed_long k some blob) (piece_is k some blob) in
      sym (evened limit k (picks k (map (made digest k blob) js)) (counted (picks k (map (made digest k blob) js))) s refl (enough k s gs js at t n l x is apart low many) (sym (wide k s gs js at t n l x is apart low many some)) (sym (level_all k s gs js at t n l x is apart low many)) (Ok blob) (sym (ap (unframed limit k s) f ∙ frame_opens k some blob fits limit room)))

pub opens_shaped : (digest : List ℕ → List ℕ) → Long digest → (config : Config) → config.extra ≡ 1 → 1 ≤ config.minimum → config.minimum ≤ 63 → (blob : List ℕ) → length blob < 2 ^ 32 → (limit : ℕ) → length blob ≤ limit → (js : List ℕ) → distinct js ≡ true → AllByRecursion (λ j. j ≤ config.minimum) js → config.minimum ≤ length js → parity_opens config limit (map (made digest config.minimum blob) js) ≡ Ok blob
opens_shaped digest long config e a b blob fits limit room js apart low many =
    cond-true (shaped config) (opened limit config.minimum (picks config.minimum (map (made digest config.minimum blob) js))) (Err TooFew) (shaped_is config e a b)
    ∙ opens config.minimum a b blob digest long fits limit room js apart low many
