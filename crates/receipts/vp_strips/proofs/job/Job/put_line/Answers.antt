use Rattle.std.proofs.Common.{arith}
use Rattle.vp_strips.proofs.Jobs.{length-line}
use Rattle.vp_strips.proofs.job.Job.put_line.Goals as goal

pub returns-clause-some : goal.returns-clause-some
returns-clause-some g c = grind (arith, length-line)

pub returns-in-Some-clause-job : goal.returns-in-Some-clause-job
returns-in-Some-clause-job g c = c.put_rows.ensures.job c.args.lines.now c.requires.job
