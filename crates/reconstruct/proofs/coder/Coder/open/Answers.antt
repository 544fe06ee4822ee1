use Rattle.std.proofs.Common.{map, length}
use Rattle.std.proofs.lemmas.Result.{err_from_is_err_and}
use Rattle.scheme.specs.Pieces.{indexed}
use Rattle.reconstruct.proofs.Opening.{opened_fits, opened_writes}
use Rattle.reconstruct.specs.Coders.{terms_of}
use Rattle.reconstruct.proofs.coder.Coder.open.Goals as goal

pub returns-in_err-fit : goal.returns-in_err-fit
returns-in_err-fit g c =
    let d = c.in_ok-len.ensures in
    let me = c.args.self.now in
    let digest = g.D.Hash.digest me.hash.now in
    let reads = g.K.Kind.reads me.kind.now digest in
    let opened = (terms_of g.D.Hash.digest g.S.Scheme.good g.S.Scheme.opens g.K.Kind.reads me (length c.args.place.now)).opens (map indexed c.args.shards.now) in
    let t = simp (c.of-coding.ensures.config, c.of-coding.ensures.root) at d.tells in
    let p = err_from_is_err_and c.from_residual-in_err-fit.result c.from_residual-in_err-fit.ensures.1 in
    record {
      gives = rw (p.1, p.2) (opened_fits digest reads me.commitment.now.bytes opened c.in_ok-len.len c.decode.new.place _ t c.in_err-fit.ensures);
      writes = opened_writes opened c.in_ok-len.len c.args.place.now c.decode.new.place t d.within c.decode.auto.place d.behind;
    }

pub returns : goal.returns
returns g c =
    let d = c.in_ok-len.ensures in
    let me = c.args.self.now in
    let digest = g.D.Hash.digest me.hash.now in
    let reads = g.K.Kind.reads me.kind.now digest in
    let opened = (terms_of g.D.Hash.digest g.S.Scheme.good g.S.Scheme.opens g.K.Kind.reads me (length c.args.place.now)).opens (map indexed c.args.shards.now) in
    let t = simp (c.of-coding.ensures.config, c.of-coding.ensures.root) at d.tells in
    record {
      gives = opened_fits digest reads me.commitment.now.bytes opened c.in_ok-len.len c.decode.new.place _ t c.in_ok-fit.ensures;
      writes = opened_writes opened c.in_ok-len.len c.args.place.now c.decode.new.place t d.within c.decode.auto.place d.behind;
    }
