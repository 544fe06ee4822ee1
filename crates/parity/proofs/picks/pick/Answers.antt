use Rattle.std.proofs.Common.{not, eqb, unwrap_or, [], ap, ◌∙◌, rules, tests}
use Rattle.std.proofs.lemmas.Iterator.{YieldsList-from_map_by, YieldsList-from_slice}
use Rattle.std.proofs.lemmas.Iterator.Consumers.{YieldsList-at, YieldsList-from_filter}
use Rattle.std.proofs.lemmas.Iterator.Search.{find_from_yields_List}
use Rattle.tree.specs.Trees.{payload}
use Rattle.parity.specs.Parities.{empty}
use Rattle.parity.proofs.Picking.{pick_is, unwrap_now}
use Rattle.parity.proofs.picks.pick.Goals as goal

pub returns : goal.returns
returns c =
    let found =
    find_from_yields_List (λ p. not (empty p)) _ _ c.find.result c.find.ensures.ran
    (YieldsList-from_map_by _ (λ r. r.now) (λ s. payload c.args.depth s.bytes.now) (YieldsList-at c.map.ensures.source (YieldsList-from_filter _ (λ s. eqb s.index c.args.index) (YieldsList-from_slice c.args.shards.now cc) c.filter.ensures.closure (λ x r q k. search (rules, tests)))) c.map.ensures.closure (λ x r q k. search (rules, tests)))
    (λ x b q k. search (rules, tests)) in
    ap (λ x. x.now) c.unwrap_or.ensures
    ∙ unwrap_now c.find.result _
    ∙ ap (λ o. unwrap_or o []) found
    ∙ pick_is c.args.depth c.args.index c.args.shards.now
