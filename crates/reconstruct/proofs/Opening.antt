-- What a decoding and a fit say together. Assumes nothing.
use Rattle.std.proofs.Common.{◌≡◌, ℕ, ◌≤◌, List, length, take, drop, Ok, Option, Result, sym, ap, ◌∙◌, arith, take-append-drop, length-take-le}
use Rattle.block.specs.Blobs.{fitted}
use Rattle.block.specs.declared.blob.Misfit.{Misfit}
use Rattle.block.specs.declared.kind.Reading.{Reading}
use Rattle.scheme.specs.Told.{Opened}
use Rattle.reconstruct.specs.Rebuilt.{raised, rebuilt, written}

pub opened_writes : (o : Opened) (n : ℕ) (place after : List ℕ) → Ok (take n after) ≡ o → n ≤ length place → length after ≡ length place → drop n after ≡ drop n place → after ≡ written o place
opened_writes o n place after e within long behind =
    let fits : n ≤ length after = omega arith in
    let w : written (Ok (take n after)) place ≡ written o place = ap (λ (p : Opened). written p place) e in
    let front : length (take n after) ≡ n = length-take-le n after fits in
    sym (take-append-drop n after) ∙ simp behind (simp front at w)

pub opened_fits : (digest : List ℕ → List ℕ) (reads : List ℕ → Option Reading) (commitment : List ℕ) (o : Opened) (n : ℕ) (after : List ℕ) (r : Result Reading Misfit) → Ok (take n after) ≡ o → r ≡ fitted digest reads commitment (take n after) → raised r ≡ rebuilt digest reads commitment o
opened_fits digest reads commitment o n after r e f =
    ap raised f ∙ ap (λ (p : Opened). rebuilt digest reads commitment p) e
