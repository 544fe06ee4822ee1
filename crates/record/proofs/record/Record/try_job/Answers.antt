use Rattle.record.proofs.Starting.{job_starts, nothing_cached, nothing_few, nothing_out, started-sound}
use Rattle.record.proofs.record.Record.try_job.Goals as goal
use Rattle.record.proofs.record.Record.try_job.Goals.{then-self-via-then-self, then-self-via-else-self+then-self-2, then-self-via-else-self+else-self-2+then-self-minimum}

pub returns-then-self-clause-job : goal.returns-then-self-clause-job
returns-then-self-clause-job c width at k slot s =
    elim c.then-self.branch [
      | then-self-via-then-self w ↦ nothing_cached at k slot c.args.minimum width c.args.self.now s w.if-self.true
      | then-self-via-else-self+then-self-2 w ↦ nothing_out at k slot c.args.minimum width c.args.self.now s w.if-self.false w.if-self-2.true
      | then-self-via-else-self+else-self-2+then-self-minimum w ↦ nothing_few at k slot c.args.minimum width c.args.self.now s w.if-self.false w.if-self-2.false w.if-self-minimum.true
    ]

pub returns-clause-job : goal.returns-clause-job
returns-clause-job c width at k slot s =
    simp c.saturating_sub-self.ensures (job_starts at k slot c.args.minimum width c.args.self.now s c.if-self.false c.if-self-2.false c.if-self-minimum.false)

pub returns-clause-sound : goal.returns-clause-sound
returns-clause-sound c width s =
    simp c.saturating_sub-self.ensures (started-sound c.args.minimum width c.args.self.now s c.if-self-minimum.false)
