use Rattle.vp_strips.proofs.Jobs.{pending_while}
use Rattle.vp_strips.proofs.job.Job.is_pending.Goals as goal

pub returns : goal.returns
returns c = λ canvas left turned. let j = c.args.self.now in rw c.is_some.ensures (pending_while j canvas j.place j.after left turned)
