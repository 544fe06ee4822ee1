-- What the bytes of a frame are opened to, fault by fault. Assumes nothing.
use Rattle.std.proofs.Common.{◌≡◌, ℕ, ◌+◌, ◌-◌, ◌*◌, ◌<◌, ◌≤◌, min, true, false, List, map, length, take, drop, Ok, Err, sym, ap, ◌∙◌, subst, arith, le-ltb, eq-eqb, le-leb}
use Rattle.std.proofs.lemmas.Bool.{lt-leb}
use Rattle.std.proofs.Math.Seq.{paste}
use Rattle.std.proofs.lemmas.Nat.{mul-le}
use Rattle.std.proofs.lemmas.List.FromFn.{length-map-range_with_len}
use Rattle.std.proofs.lemmas.List.{length-drop, length-map}
use Rattle.register.specs.Words.{word}
use Rattle.register.specs.declared.commitment.Config.{Config}
use Rattle.scheme.specs.Pieces.{Indexed}
use Rattle.scheme.specs.Told.{Opened}
use Rattle.scheme.specs.declared.fault.Fault.TheVariants.{Padding, TooLong}
use Rattle.tree.specs.Frames.{piece_length, unframed, zeros}
use Rattle.tree.specs.Trees.{depth}
use Rattle.tree.proofs.Framed.{pieces_cover}
use Rattle.parity.specs.declared.framing.Framing.{Framing}
use Rattle.parity.specs.Framings.{framed_in, size}
use Rattle.parity.proofs.Reading.{length-framed_in, pasted_back, pasted_front}
use Rattle.parity.specs.Parities.{counted, even, framing, opened, parity_opens, pick, picks, shaped, width}

-- a product's size by a capped factor, which cannot wrap
pub capped_over : (k s : ℕ) → 4 ≤ k * min s 4 → 4 ≤ k * s
capped_over k s h = let m = mul-le k (min s 4) k s (omega arith) (omega arith) in omega arith

pub room : (f : Framing) (m : ℕ) → m ≡ min f.width 4 → 4 ≤ (length f.picks.now - 1) * m → 4 ≤ size f
room f m e h = capped_over (length f.picks.now - 1) f.width (subst (λ (n : ℕ). 4 ≤ (length f.picks.now - 1) * n) e h)

-- what is known past the first test: the blob's length n, and how long pieces of such a blob are, p
module _ (limit : ℕ) (f : Framing) (m n p : ℕ) (capped : m ≡ min f.width 4) (much : 4 ≤ (length f.picks.now - 1) * m) (e : n ≡ word (framed_in f) 0 4) (q : p ≡ piece_length (length f.picks.now - 1) n) where
  long : 4 ≤ length (framed_in f)
  long = omega (arith, length-framed_in f, room f m capped much)

  module _ (same : p ≡ f.width) where
    abbrev Opens : Opened → Type 0
    Opens o = o ≡ unframed limit (length f.picks.now - 1) f.width (framed_in f)

    pub padding : false ≡ zeros (drop (4 + n) (framed_in f)) → Opens (Err Padding)
    padding z = simp (le-ltb (length (framed_in f)) 4 long, ← e, ← q, eq-eqb p f.width same, ← z)

    module _ (z : true ≡ zeros (drop (4 + n) (framed_in f))) where
      pub over : limit < n → Opens (Err TooLong)
      over h = simp (le-ltb (length (framed_in f)) 4 long, ← e, ← q, eq-eqb p f.width same, ← z, lt-leb n limit h)

      module _ (place after : List ℕ) (room : n ≤ length place) (w : after ≡ paste place 0 (drop 4 (framed_in f)) n) where
        whole : 4 + n ≤ length (framed_in f)
        whole =
            let some : 1 ≤ length f.picks.now - 1 = omega (arith, f.some) in
            simp (length-framed_in f, ← same, q) (pieces_cover (length f.picks.now - 1) n some)

        enough : n ≤ length (drop 4 (framed_in f))
        enough = simp length-drop (omega (arith, whole))

        pub fits : limit ≡ length place → Opens (Ok (take n after))
        fits l =
            let b : n ≤ limit = omega (arith, l) in
            let t : take n after ≡ take n (drop 4 (framed_in f)) = simp (w, pasted_front place (drop 4 (framed_in f)) n enough) in
            simp (le-ltb (length (framed_in f)) 4 long, ← e, ← q, eq-eqb p f.width same, ← z, le-leb n limit b, t)

        pub behind : drop n after ≡ drop n place
        behind = simp w (pasted_back place (drop 4 (framed_in f)) n enough)

-- from the picks to their frame
pub evened : (limit k : ℕ) (ps : List (List ℕ)) (n w : ℕ) → n ≡ counted ps → k ≤ n → w ≡ width ps → true ≡ even w ps → (o : Opened) → o ≡ unframed limit k w (framing w ps) → o ≡ opened limit k ps
evened limit k ps n w c h e t o q = q ∙ simp (← c, le-ltb n k h, ← e, ← t)

-- from the shards to their picks
pub opens_picks : {X : Type 0} (f : X → List ℕ) (found : List X) (config : Config) (limit m : ℕ) (shards : List Indexed) (o : Opened) → true ≡ shaped config → m ≡ config.minimum → map f (take (config.minimum + 1) found) ≡ picks config.minimum shards → o ≡ opened limit (length (take (m + 1) found) - 1) (map f (take (m + 1) found)) → o ≡ parity_opens config limit shards
opens_picks f found config limit m shards o t e p q =
    let k : ℕ = config.minimum in
    let n : length (take (k + 1) found) ≡ k + 1 = sym (length-map (take (k + 1) found) f) ∙ ap length p ∙ length-map-range_with_len (pick (depth k) shards) 0 (k + 1) in
    let c : k + 1 - 1 ≡ k = omega arith in
    q ∙ simp (e, n, c, p, ← t)
