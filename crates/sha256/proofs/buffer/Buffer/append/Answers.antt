use Rattle.std.proofs.Common.{◌≡◌, ◌++◌, length, take, ap, ◌∙◌, rules}
use Rattle.sha256.proofs.Parts.{appended}
use Rattle.sha256.proofs.buffer.Buffer.append.Goals as goal

pub returns : goal.returns
returns g c =
    let long : length c.self.inside.bytes ≡ g.row.N = search rules in
    let copied : c.copy_from_slice.new.self ≡ take c.min-n.result c.args.part.now = c.copy_from_slice.ensures.after in
    appended g.row.N c.self.inside.bytes c.args.part.now _ c.self.inside.len c.min-n.result long c.self.invariant c.min-n.ensures copied
    ∙ ap (λ x. take g.row.N (x ++ c.args.part.now)) c.self.view_is
