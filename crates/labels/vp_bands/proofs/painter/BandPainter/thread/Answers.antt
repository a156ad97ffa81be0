use Rattle.std.proofs.Common.{refl}
use Rattle.vp_format.specs.Formats.{held}
use Rattle.vp_bands.proofs.Before.{begun}
use Rattle.vp_bands.proofs.painter.BandPainter.thread.Goals as goal

pub returns-clause-before : goal.returns-clause-before
returns-clause-before g c = λ sheets stored kept.
    rw c.start.ensures.is (begun sheets (held c.args.fields.now stored) c.args.view _ (c.thread_fields.ensures.threaded sheets stored kept) refl refl refl)
