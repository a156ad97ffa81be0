use Rattle.vp_strips.proofs.Jobs.{own_low}
use Rattle.vp_strips.proofs.job.Job.of.Goals as goal

pub returns-in_default-clause-job : goal.returns-in_default-clause-job
returns-in_default-clause-job c = λ canvas lines. c.turn.ensures.job canvas lines (record { low = own_low c.white.result.dots c.white.ensures.own; after = c.requires.after; place = tt; left = tt; line = tt })
