use Rattle.std.proofs.Common.{◌≡◌, sym, ap, ◌∙◌, refl, rules}
use Rattle.std.specs.List.{fold}
use Rattle.std.proofs.lemmas.List.Sums.{fold_push}
use Rattle.hash.proofs.Folds.{fold_below}
use Rattle.sha256.specs.Fips180.{H⁰, hashes}
use Rattle.sha256.proofs.Blocks.{turn, turned}
use Rattle.sha256.proofs.last_hash.Goals as goal

pub returns : goal.returns
unfolding hashes H⁰
returns c =
    let p = c.args.padded.now in
    let n = c.blocks-2.result in
    fold_below _ (λ is h. h ≡ fold (turn p) (hashes 0 p) is) _
    (λ is a i b f' so_far call.
    let step : b ≡ turn p a i = search rules in
    (step ∙ ap (λ h. turn p h i) so_far ∙ sym (fold_push (turn p) (hashes 0 p) is i), search rules))
    n _ _ refl c.fold.ensures.ran
    ∙ turned p n ∙ ap (λ k. hashes k p) c.blocks-2.ensures
