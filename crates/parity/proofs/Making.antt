-- The payloads of a blob, and that their shards are good. Assumes nothing.
use Rattle.std.proofs.Common.{◌≡◌, ℕ, suc, ◌+◌, ◌*◌, ◌^◌, ◌<◌, ◌≤◌, true, List, [], ◌∷◌, length, get_or, take, drop, sym, ap, ◌∙◌, subst, ⊎_elim, suc-mul, zero-add, arith, length-append, length-take-le, eq-eqb, le-leb}
use Rattle.std.specs.Int.Bits.{bit_xor, xor_self}
use Rattle.std.proofs.Math.Seq.{get_or_at}
use Rattle.std.proofs.lemmas.Nat.{mul-le}
use Rattle.std.proofs.lemmas.List.FromFn.{get_or-map-range_with_len, length-map-range_with_len}
use Rattle.std.proofs.lemmas.List.{get_or_append_left, length-drop}
use Rattle.std.proofs.lemmas.List.Sums.{fold_push}
use Rattle.std.proofs.lemmas.Bool.{cases_order}
use Rattle.register.specs.declared.commitment.Config.{Config}
use Rattle.tree.proofs.Framed.{framed_long, pieces_cover}
use Rattle.tree.proofs.Joining.{Level}
use Rattle.tree.proofs.Standing.{stands}
use Rattle.tree.specs.Frames.{framed, piece_length}
use Rattle.tree.specs.Laws.{Long}
use Rattle.tree.specs.Trees.{depth, levels, root, rooted, shard}
use Rattle.parity.proofs.Reading.{positive}
use Rattle.parity.specs.Codes.{parity, payloads, pieces}
use Rattle.parity.specs.Parities.{parity_good, shaped, xored}

module _ (k : ℕ) (some : 1 ≤ k) (blob : List ℕ) where
  abbrev pub s : ℕ
  s = piece_length k (length blob)

  pub thick : 0 < s
  thick = positive s 0 k (omega (arith, pieces_cover k (length blob) some))

  pieces_long : length (pieces k blob) ≡ k
  pieces_long = length-map-range_with_len (λ j. take s (drop (j * s) (framed k blob))) 0 k

  pub payloads_long : length (payloads k blob) ≡ k + 1
  payloads_long = length-append (pieces k blob) (parity k blob ∷ []) ∙ ap (λ (n : ℕ). n + 1) pieces_long

  pub piece_is : (j : ℕ) → j < k → get_or (payloads k blob) j [] ≡ take s (drop (j * s) (framed k blob))
  piece_is j h =
      let l : j < length (pieces k blob) = subst (λ (n : ℕ). j < n) (sym pieces_long) h in
      get_or_append_left (pieces k blob) (parity k blob ∷ []) [] j l
      ∙ get_or-map-range_with_len (λ j. take s (drop (j * s) (framed k blob))) 0 k j j [] h (zero-add j)

  parity_is : get_or (payloads k blob) k [] ≡ parity k blob
  parity_is = get_or_at (pieces k blob) (parity k blob) [] [] k pieces_long

  pub payload_long : (j : ℕ) → j ≤ k → length (get_or (payloads k blob) j []) ≡ s
  payload_long j h =
      ⊎_elim
      (λ (e : j ≡ k). ap (λ (i : ℕ). length (get_or (payloads k blob) i [])) e ∙ ap length parity_is ∙ length-map-range_with_len (λ i. xored i (pieces k blob)) 0 s)
      (⊎_elim
      (λ (l : j < k).
      let room : suc j * s ≤ k * s = mul-le (suc j) s k s l (omega arith) in
      let enough : s ≤ length (drop (j * s) (framed k blob)) = simp (length-drop, framed_long k some blob) (omega (arith, suc-mul j s, room)) in
      ap length (piece_is j l) ∙ length-take-le s (drop (j * s) (framed k blob)) enough)
      (λ (m : k < j). absurd (omega arith)))
      (cases_order j k)

  pub payloads_level : Level (λ g. g) s [] (payloads k blob)
  payloads_level j h = payload_long j (omega (arith, payloads_long))

  -- all of them together are nothing
  pub xored_all : (i : ℕ) → i < s → xored i (payloads k blob) ≡ 0
  xored_all i h =
      let p : get_or (parity k blob) i 0 ≡ xored i (pieces k blob) = get_or-map-range_with_len (λ i. xored i (pieces k blob)) 0 s i i 0 h (zero-add i) in
      fold_push (λ x p. bit_xor x (get_or p i 0)) 0 (pieces k blob) (parity k blob)
      ∙ ap (bit_xor (xored i (pieces k blob))) p
      ∙ xor_self (xored i (pieces k blob))

  module _ (few : k ≤ 63) (digest : List ℕ → List ℕ) (long : Long digest) where
    pub levels_are : levels (payloads k blob) ≡ depth k
    levels_are = ap (λ (n : ℕ). depth n) (omega (arith, payloads_long))

    pub limited : length (payloads k blob) ≤ 2 ^ 32
    limited = omega (arith, payloads_long)

    pub filled : (j : ℕ) → j ≤ k → 0 < length (get_or (payloads k blob) j [])
    filled j h = omega (arith, payload_long j h, thick)

    leads : (j : ℕ) → j ≤ k → rooted digest (depth k) (root digest (payloads k blob)) j (shard digest (payloads k blob) j) ≡ true
    leads j h =
        subst (λ (d : ℕ). rooted digest d (root digest (payloads k blob)) j (shard digest (payloads k blob) j) ≡ true) levels_are
        (stands digest long (payloads k blob) limited j (omega (arith, payloads_long)) (filled j h))

pub shaped_is : (config : Config) → config.extra ≡ 1 → 1 ≤ config.minimum → config.minimum ≤ 63 → shaped config ≡ true
shaped_is config e a b = simp (eq-eqb config.extra 1 e, le-leb 1 config.minimum a, le-leb config.minimum 63 b)

pub good : (digest : List ℕ → List ℕ) → Long digest → (config : Config) → config.extra ≡ 1 → 1 ≤ config.minimum → config.minimum ≤ 63 → (blob : List ℕ) (j : ℕ) → j ≤ config.minimum → parity_good digest config (root digest (payloads config.minimum blob)) j (shard digest (payloads config.minimum blob) j) ≡ true
good digest long config e a b blob j h =
    simp (shaped_is config e a b, le-leb j config.minimum h, leads config.minimum a blob b digest long j h)
