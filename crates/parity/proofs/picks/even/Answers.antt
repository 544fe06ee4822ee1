use Rattle.std.proofs.Common.{sym, ◌||◌, ◌∙◌, eqb, length, rules}
use borrow.Author.Tests.{tests}
use Rattle.std.proofs.lemmas.Iterator.{YieldsList-from_slice}
use Rattle.std.proofs.lemmas.Iterator.Search.{all_from_yields_List}
use Rattle.std.proofs.lemmas.List.Folds.{list_all-map}
use Rattle.parity.specs.Parities.{empty}
use Rattle.parity.proofs.picks.even.Goals as goal

pub returns : goal.returns
returns c =
    all_from_yields_List (λ p. empty p.now || eqb (length p.now) c.args.width) _ _ _ c.all.ensures.ran (YieldsList-from_slice c.args.picks.now cc) (λ x b q k. search (rules, tests))
    ∙ sym (list_all-map (λ p. empty p || eqb (length p) c.args.width) (λ x. x.now) c.args.picks.now)
