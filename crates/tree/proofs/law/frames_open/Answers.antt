use Rattle.tree.proofs.Framed.{frame_opens}
use Rattle.tree.proofs.law.frames_open.Goals as goal

pub returns : goal.returns
returns c = λ k some blob fits limit h. frame_opens k some blob fits limit h
