-- How much the pieces of a framed blob hold, and how it is read back. Assumes nothing.
use Rattle.std.proofs.Common.{◌≡◌, ℕ, zero, suc, ◌+◌, ◌-◌, ◌*◌, ◌/◌, ◌%◌, ◌^◌, ◌<◌, ◌≤◌, true, List, ◌++◌, length, take, drop, replicate, Ok, sym, refl, ◌∙◌, mod-eq_of_lt, mul_comm, arith, length-append, take_at, drop_at, le-ltb, eq-eqb, ne_eqb, le-leb}
use Rattle.std.proofs.lemmas.Nat.{div-add-mod', mod_below, shr-shr}
use Rattle.std.proofs.lemmas.List.{length-replicate}
use Rattle.register.specs.Words.{word}
use Rattle.tree.specs.Frames.{four_bytes, framed, piece_length, unframed, zeros}

module _ (k n : ℕ) (some : 1 ≤ k) where
  whole : n + 4 + (k - 1) ≡ k * piece_length k n + (n + 4 + (k - 1)) % k
  whole =
      sym (div-add-mod' (n + 4 + (k - 1)) k)
      ∙ simp (ne_eqb k 0 (λ e. omega arith), mul_comm k)

  pub pieces_cover : 4 + n ≤ k * piece_length k n
  pieces_cover = let m : (n + 4 + (k - 1)) % k < k = mod_below (n + 4 + (k - 1)) k some in omega (arith, whole)

  pub pieces_close : k * piece_length k n ≤ n + 4 + (k - 1)
  pieces_close = omega (arith, whole)

zeros_all : (n : ℕ) → zeros (replicate n 0) ≡ true
zeros_all zero = refl
zeros_all (suc n) = zeros_all n

four_word : (n : ℕ) → n < 2 ^ 32 → (((0 + n / 16777216 % 256) * 256 + n / 65536 % 256) * 256 + n / 256 % 256) * 256 + n % 256 ≡ n
four_word n h =
    let p : n / 256 / 256 ≡ n / 65536 = shr-shr n 8 8 in
    let q : n / 65536 / 256 ≡ n / 16777216 = shr-shr n 16 8 in
    let a = div-add-mod' n 256 in
    let b = div-add-mod' (n / 256) 256 in
    let c = div-add-mod' (n / 65536) 256 in
    let d : n / 16777216 % 256 ≡ n / 16777216 = mod-eq_of_lt (omega arith) in
    omega arith

module _ (k : ℕ) (some : 1 ≤ k) (blob : List ℕ) where
  abbrev pads : List ℕ
  pads = replicate (k * piece_length k (length blob) - (4 + length blob)) 0

  head_long : length (four_bytes (length blob) ++ blob) ≡ 4 + length blob
  head_long = length-append (four_bytes (length blob)) blob

  pub framed_long : length (framed k blob) ≡ k * piece_length k (length blob)
  framed_long =
      length-append (four_bytes (length blob) ++ blob) pads
      ∙ simp (head_long, length-replicate) (omega (arith, pieces_cover k (length blob) some))

  module _ (fits : length blob < 2 ^ 32) where
    word_is : word (framed k blob) 0 4 ≡ length blob
    word_is = four_word (length blob) fits

    pub frame_opens : (limit : ℕ) → length blob ≤ limit → unframed limit k (piece_length k (length blob)) (framed k blob) ≡ Ok blob
    frame_opens limit h =
        let long : 4 ≤ length (framed k blob) = omega (arith, framed_long, pieces_cover k (length blob) some) in
        let rest : drop (4 + length blob) (framed k blob) ≡ pads = drop_at (four_bytes (length blob) ++ blob) pads (4 + length blob) head_long in
        let back : take (length blob) (drop 4 (framed k blob)) ≡ blob = take_at blob pads (length blob) refl in
        simp (le-ltb (length (framed k blob)) 4 long, word_is, eq-eqb (piece_length k (length blob)) (piece_length k (length blob)) refl, rest, zeros_all, le-leb (length blob) limit h, back)
