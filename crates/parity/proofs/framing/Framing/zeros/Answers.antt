use Rattle.std.proofs.Common.{◌≡◌, ◌+◌, ◌-◌, eqb, length, get_or, refl, ◌∙◌, arith, rules, tests}
use Rattle.std.proofs.lemmas.Iterator.{YieldsList-from_range}
use Rattle.std.proofs.lemmas.Iterator.Search.{all_from_yields_List}
use Rattle.parity.specs.Framings.{framed_in}
use Rattle.parity.proofs.Reading.{length-framed_in, zeros_over}
use Rattle.parity.proofs.framing.Framing.zeros.Goals as goal

pub returns : goal.returns
returns c =
    let bytes = framed_in c.args.self.now in
    let whole : c.args.start + (c.args.end - c.args.start) ≡ length bytes = omega (arith, length-framed_in c.args.self.now, c.requires.whole, c.requires.within) in
    all_from_yields_List (λ i. eqb (get_or bytes i 0) 0) _ _ c.all.result c.all.ensures.ran (YieldsList-from_range c.args.start c.args.end (c.args.end - c.args.start) refl refl) (λ x b q k. search (rules, tests))
    ∙ zeros_over bytes c.args.start (c.args.end - c.args.start) whole
