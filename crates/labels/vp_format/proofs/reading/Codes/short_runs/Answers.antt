use Rattle.vp_format.proofs.Quick.{reads_on}
use Rattle.vp_format.proofs.reading.Codes.short_runs.Goals as goal

pub returns-clause-read : goal.returns-clause-read
returns-clause-read c = rw c.go_on_to.ensures.at (reads_on _ _ _ c.digits-x.new.places _ _ _ _ _ _ _ c.digits-x.ensures c.short_runs-x.ensures)
