use Rattle.std.proofs.Common.{◌≡◌, true, false, is_ok, sym, ◌∙◌, rules}
use Rattle.reconstruct.proofs.Gathering.{counts, gathered-within, gathers, judges, short_counts, short_judges}
use Rattle.register.specs.Commitments.{under}
use Rattle.reconstruct.proofs.gather.gather.Goals as goal

pub returns-in_err-ok-clause-counts : goal.returns-in_err-ok-clause-counts
returns-in_err-ok-clause-counts g c =
    let no : is_ok c.check_many.result ≡ false = search rules in
    let good = under (g.S.Scheme.good c.args.scheme.now (g.D.Hash.digest c.args.hash.now)) c.args.commitment.now.bytes c.args.limit in
    c.from_residual.ensures
    ∙ short_counts good c.args.shards.now c.args.checked c.args.verdicts.now c.check_many.new.verdicts c.if-checked-shards.false _ (sym no ∙ c.check_many.ensures.fits)

pub returns-in_err-ok-clause-judges : goal.returns-in_err-ok-clause-judges
returns-in_err-ok-clause-judges g c =
    let h = c.check_many.ensures in
    let no : is_ok c.check_many.result ≡ false = search rules in
    let good = under (g.S.Scheme.good c.args.scheme.now (g.D.Hash.digest c.args.hash.now)) c.args.commitment.now.bytes c.args.limit in
    let j = simp (c.of.ensures.config, c.of.ensures.root) at h.judges in
    rw c.from_residual.ensures (short_judges good c.args.shards.now c.args.checked c.args.verdicts.now c.check_many.new.verdicts c.if-checked-shards.false (sym no ∙ h.fits) j)

pub returns : goal.returns
returns g c =
    let h = c.check_many.ensures in
    let yes : is_ok c.check_many.result ≡ true = search rules in
    let k = c.keep.ensures in
    let within = c.if-checked-shards.false in
    let good = under (g.S.Scheme.good c.args.scheme.now (g.D.Hash.digest c.args.hash.now)) c.args.commitment.now.bytes c.args.limit in
    let s = c.args.shards.now in
    let n = c.args.checked in
    let v = c.args.verdicts.now in
    let w = c.check_many.new.verdicts in
    let j = simp (c.of.ensures.config, c.of.ensures.root) at h.judges in
    record {
      counts = counts good s n v w within c.keep.result (sym yes ∙ h.fits) j k.counts;
      gathers = gathers good s n v w within c.keep.result (sym yes ∙ h.fits) j c.keep.new.shards c.keep.auto.shards k.within k.keeps;
      within = gathered-within good s n v w within c.keep.result k.within;
      judges = judges good s n v w within j;
    }
