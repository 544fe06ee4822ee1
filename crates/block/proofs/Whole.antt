-- A blob that fits ends with the commitment's config. Assumes nothing.
use Rattle.std.proofs.Common.{◌≡◌, ℕ, ◌+◌, ◌≤◌, Bool, true, false, cond, ◌&&◌, eqb, List, ◌++◌, length, take, drop, Some, None, Ok, Err, Option, Result, sym, refl, ap, ◌∙◌, arith, length-drop, take-append-drop, take_all, drop-drop, take-add}
use Rattle.std.proofs.lemmas.Bool.{and_parts, eqb-true}
use Rattle.std.specs.Str.{bytes_eq}
use Rattle.register.specs.Commitments.{block_of, config_at, config_of, context_of}
use Rattle.register.specs.Words.{word}
use Rattle.register.specs.declared.commitment.Config.{Config}
use Rattle.block.specs.declared.blob.Misfit.{Misfit}
use Rattle.block.specs.declared.kind.Reading.{Reading}
use Rattle.block.specs.Readings.{context_in}
use Rattle.block.specs.Blobs.{fitted, matched, parsed, same_config, sound}
use Rattle.block.specs.Written.{Bytes, number_bytes}
use Rattle.block.proofs.Numbers.{number_word}

ok_from : {A E : Type 0} (t : Bool) (x y : A) (f : E) → cond t (Ok x) (Err f) ≡ Ok y → (t ≡ true) × (x ≡ y)
ok_from true x y f e = (refl, cc)
ok_from false x y f e = cc

-- the config that stands behind the block
pub record Behind (blob : List ℕ) (r : Reading) (config : Config) : Type 0 where
  pub long : length blob ≡ r.len + 4
  pub is : config_at blob r.len ≡ config

parsed_behind : (blob : List ℕ) (o : Option Reading) (r : Reading) (config : Config) → parsed blob o ≡ Ok (r, config) → Behind blob r config
parsed_behind blob None r config e = cc
parsed_behind blob (Some q) r config e =
    let f = ok_from (eqb (length blob) (q.len + 4) && sound (config_at blob q.len)) (q, config_at blob q.len) (r, config) _ e in
    let t = and_parts (eqb (length blob) (q.len + 4)) _ f.0 in
    let same : q ≡ r = ap (λ (p : Reading × Config). p.0) f.1 in
    let at : config_at blob q.len ≡ config = ap (λ (p : Reading × Config). p.1) f.1 in
    record {
      long = eqb-true (length blob) (q.len + 4) t.0 ∙ ap (λ (p : Reading). p.len + 4) same;
      is = ap (λ (p : Reading). config_at blob p.len) (sym same) ∙ at;
    }

-- the three tests in a row
tests : (t u v : Bool) (q r : Reading) (d e f : Misfit) → cond t (cond u (cond v (Ok q) (Err d)) (Err e)) (Err f) ≡ Ok r → (u ≡ true) × (q ≡ r)
tests true true true q r d e f h = (refl, cc)
tests true true false q r d e f h = cc
tests true false v q r d e f h = cc
tests false u v q r d e f h = cc

pub matched_behind : (digest : List ℕ → List ℕ) (commitment blob : List ℕ) (o : Option Reading) (q : Result (Reading × Config) Misfit) (r : Reading) → parsed blob o ≡ q → matched digest commitment blob q ≡ Ok r → (config : Config) × Behind blob r config × (same_config config (config_of commitment) ≡ true)
matched_behind digest commitment blob o (Err f) r e h = cc
matched_behind digest commitment blob o (Ok (q, config)) r e h =
    let t = tests (bytes_eq q.digest (block_of commitment)) (same_config config (config_of commitment)) (bytes_eq (digest (context_in blob q)) (context_of commitment)) q r _ _ _ h in
    (config, parsed_behind blob o r config (e ∙ ap (λ (p : Reading). Ok (p, config)) t.1), t.0)

-- four bytes are the two numbers in them
halves : (xs : List ℕ) (i : ℕ) → Bytes xs → i + 4 ≤ length xs → take 4 (drop i xs) ≡ number_bytes 2 (word xs i 2) ++ number_bytes 2 (word xs (i + 2) 2)
halves xs i b h =
    take-add 2 2 (drop i xs)
    ∙ ap (λ (ys : List ℕ). take 2 (drop i xs) ++ take 2 ys) (drop-drop 2 i xs)
    ∙ ap (λ (ys : List ℕ). ys ++ take 2 (drop (i + 2) xs)) (sym (number_word xs i 2 b (omega arith)))
    ∙ ap (λ (ys : List ℕ). number_bytes 2 (word xs i 2) ++ ys) (sym (number_word xs (i + 2) 2 b (omega arith)))

pub whole : (digest : List ℕ → List ℕ) (reads : List ℕ → Option Reading) (commitment blob : List ℕ) (r : Reading) → Bytes commitment → length commitment ≡ 100 → Bytes blob → fitted digest reads commitment blob ≡ Ok r → blob ≡ take r.len blob ++ take 4 (drop 96 commitment)
whole digest reads commitment blob r bc lc bb e =
    let m = matched_behind digest commitment blob (reads blob) (parsed blob (reads blob)) r refl e in
    let same = and_parts (eqb m.0.minimum (config_of commitment).minimum) (eqb m.0.extra (config_of commitment).extra) m.2 in
    let low : word blob r.len 2 ≡ word commitment 96 2 =
    ap (λ (c : Config). c.minimum) m.1.is ∙ eqb-true m.0.minimum (config_of commitment).minimum same.0 in
    let high : word blob (r.len + 2) 2 ≡ word commitment 98 2 =
    ap (λ (c : Config). c.extra) m.1.is ∙ eqb-true m.0.extra (config_of commitment).extra same.1 in
    let long = m.1.long in
    let rest : length (drop r.len blob) ≤ 4 = simp length-drop (omega arith) in
    let four : drop r.len blob ≡ take 4 (drop 96 commitment) =
    sym (take_all 4 (drop r.len blob) rest)
    ∙ halves blob r.len bb (omega arith)
    ∙ ap (λ (n : ℕ). number_bytes 2 n ++ number_bytes 2 (word blob (r.len + 2) 2)) low
    ∙ ap (λ (n : ℕ). number_bytes 2 (word commitment 96 2) ++ number_bytes 2 n) high
    ∙ sym (halves commitment 96 bc (omega arith)) in
    sym (take-append-drop r.len blob) ∙ ap (λ (ys : List ℕ). take r.len blob ++ ys) four
