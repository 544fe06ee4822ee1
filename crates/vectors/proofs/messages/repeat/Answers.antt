use Rattle.std.proofs.Common.{◌∙◌, rules}
use Rattle.std.proofs.lemmas.List.Elements.{same_from_all_zip}
use Rattle.std.proofs.lemmas.Result.{IfOk-weaker}
use Rattle.vectors.proofs.Repeated.{same}
use Rattle.vectors.proofs.messages.repeat.Goals as goal

pub returns : goal.returns
returns c =
    IfOk-weaker c.repeat.result _ _
    (λ v all. same_from_all_zip _ _ _ all (λ x y e. search rules) ∙ same c.args.count c.args.text.now)
    c.repeat.ensures.items
