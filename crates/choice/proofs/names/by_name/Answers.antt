use Rattle.std.proofs.Common.{◌≡◌, ◌≢◌, rules, tests}
use Rattle.std.proofs.lemmas.Iterator.{YieldsList-from_slice, first_from_find}
use Rattle.choice.proofs.Found.{found}
use Rattle.choice.proofs.names.by_name.Goals as goal

pub returns : goal.returns
returns g c =
    let name = c.args.name.now in
    let name_of = g.C.Choice.name_of in
    let first = first_from_find _ _ c.find.result (λ x. name ≡ name_of x) (λ x. name ≢ name_of x) c.find.ensures.ran (YieldsList-from_slice c.all.result.now c.iter.ensures.rest) (λ x q k. search (rules, tests)) (λ x q k. search (rules, tests)) in
    found name_of name c.all.result.now c.find.result c.copied.result c.ok_or.result _ c.all.ensures first c.copied.ensures c.ok_or.ensures.value
