use Rattle.vp_bands.proofs.Before.{started}
use Rattle.vp_bands.proofs.painter.BandPainter.start.Goals as goal

pub returns-clause-before : goal.returns-clause-before
returns-clause-before g c = λ sheets held view b before.
    rw c.begin.ensures (started sheets held view b _ (rw (← c.self.view_is) at before))
