use Rattle.std.proofs.Common.{◌≡◌, ◌<◌, ◌≤◌, ℕ, length, Some, ap, ◌∙◌, subst}
use Rattle.register.specs.declared.commitment.Config.{Config}
use Rattle.reconstruct.proofs.Ending.{ends_decoded, ends_short, fronted}
use Rattle.reconstruct.specs.Coders.{all, block_in, terms_of}
use Rattle.reconstruct.specs.declared.outcome.Outcome.TheVariants.{Decoded}
use Rattle.reconstruct.proofs.coder.Coder.reconstruct.Goals as goal

pub returns-then-count-from : goal.returns-then-count-from
returns-then-count-from g c =
    let x = c.in_ok-count.ensures in
    let t = terms_of g.D.Hash.digest g.S.Scheme.good g.S.Scheme.opens g.K.Kind.reads c.args.self.now (length c.args.place.now) in
    let m : c.from.result ≡ t.minimum = c.from.ensures ∙ ap (λ (f : Config). f.minimum) c.config.ensures in
    let ends = ends_short t c.args.checked c.args.shards.now (length c.args.verdicts.now) c.in_ok-count.count x.counts (subst (λ (n : ℕ). c.in_ok-count.count < n) m c.if-count-from.true) in
    record {
      gives = ends.0;
      writes = ends.1 c.args.place.now;
      gathers = fronted t c.args.checked c.args.shards.now (length c.args.verdicts.now) c.in_ok-count.count x.counts c.gather.new.shards x.gathers;
      judges = x.judges;
    }

pub returns : goal.returns
returns g c =
    let x = c.in_ok-count.ensures in
    let t = terms_of g.D.Hash.digest g.S.Scheme.good g.S.Scheme.opens g.K.Kind.reads c.args.self.now (length c.args.place.now) in
    let m : c.from.result ≡ t.minimum = c.from.ensures ∙ ap (λ (f : Config). f.minimum) c.config.ensures in
    let ends = ends_decoded t c.args.checked c.args.shards.now (length c.args.verdicts.now) c.in_ok-count.count x.counts (subst (λ (n : ℕ). n ≤ c.in_ok-count.count) m c.if-count-from.false) in
    let opened : c.open.result ≡ block_in t (all t.good c.args.checked c.args.shards.now) = simp x.gathers at c.open.ensures.gives in
    record {
      gives = ap (λ r. Some (Decoded r)) opened ∙ ends.0;
      writes = simp x.gathers at c.open.ensures.writes ∙ ends.1 c.args.place.now;
      gathers = fronted t c.args.checked c.args.shards.now (length c.args.verdicts.now) c.in_ok-count.count x.counts c.gather.new.shards x.gathers;
      judges = x.judges;
    }
