use Rattle.std.proofs.Common.{◌≡◌, suc, [], ◌∷◌, ◌++◌, length, ap, ◌∙◌, refl, rules, arith}
use Rattle.std.proofs.lemmas.List.{length_push}
use Rattle.hash.proofs.Folds.{fold_below}
use Rattle.sha256.specs.Window.{slid, slide}
use Rattle.sha256.proofs.compression.slide_sixteen.Goals as goal

pub returns : goal.returns
unfolding slid
returns c =
    fold_below _ (λ is w. w ≡ slid (length is) c.args.w) _
    (λ is w i next f' so_far call.
    let step : next ≡ slide w = search rules in
    let long : suc (length is) ≡ length (is ++ i ∷ []) = omega (arith, length_push is i) in
    (step ∙ ap slide so_far ∙ ap (λ n. slid n c.args.w) long, search rules))
    16 c.args.w c.fold.result refl c.fold.ensures.ran
