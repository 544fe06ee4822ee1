use Rattle.sha256.proofs.Rounds.{first, more}
use Rattle.sha256.proofs.compression.sixteen_rounds.Goals as goal

pub returns : goal.returns
returns c = more 15 _ _ _
    (more 14 _ _ _
    (more 13 _ _ _
    (more 12 _ _ _
    (more 11 _ _ _
    (more 10 _ _ _
    (more 9 _ _ _
    (more 8 _ _ _
    (more 7 _ _ _
    (more 6 _ _ _
    (more 5 _ _ _
    (more 4 _ _ _
    (more 3 _ _ _
    (more 2 _ _ _
    (more 1 _ _ _
    (first _ _ _ c.one_round-s1.ensures)
    c.one_round-s2.ensures)
    c.one_round-s3.ensures)
    c.one_round-s4.ensures)
    c.one_round-s5.ensures)
    c.one_round-s6.ensures)
    c.one_round-s7.ensures)
    c.one_round-s8.ensures)
    c.one_round-s9.ensures)
    c.one_round-s10.ensures)
    c.one_round-s11.ensures)
    c.one_round-s12.ensures)
    c.one_round-s13.ensures)
    c.one_round-s14.ensures)
    c.one_round-s15.ensures)
    c.one_round.ensures
