use Rattle.std.proofs.Common.{◌∙◌, drop, take, ap}
use Rattle.sha256.proofs.Parts.{gather_is}
use Rattle.sha256.proofs.message.Parts.gather.Goals as goal

pub returns : goal.returns
returns c =
    gather_is c.args.at c.self.inside.first.now c.self.inside.second.now c.self.inside.padding.now
    c.after.ensures (simp c.new-block.ensures at c.append.ensures)
    c.saturating_sub.ensures c.after-2.ensures c.append-2.ensures
    c.saturating_sub-2.ensures c.after-3.ensures c.append-3.ensures
    ∙ ap (λ x. take 64 (drop c.args.at x)) c.self.view_is
