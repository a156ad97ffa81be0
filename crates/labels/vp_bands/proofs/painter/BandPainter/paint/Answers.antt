use Rattle.std.proofs.Common.{arith}
use Rattle.vp_format.specs.Formats.{held}
use Rattle.vp_bands.proofs.Before.{painted_on}
use Rattle.vp_bands.proofs.painter.BandPainter.paint.Goals as goal

pub returns-clause-before : goal.returns-clause-before
returns-clause-before g c =
    let before = rw (← c.self.view_is) at c.requires.before in
    let painted = c.paint_band.ensures in
    let threads = c.paint_band.new.threads in
    let marks = c.paint_band.new.marks in
    rw (painted.stays.entries, painted.stays.heads, painted.stays.begun)
    (painted_on c.args.sheets.now (held c.args.fields.now c.args.stored.now) c.args.view c.args.b _ threads.links marks.items c.paint_band.new.carried threads.looks marks.read _ before painted.carried painted.marked painted.at_least painted.at_most (omega (arith, painted.work)) (omega (arith, painted.shown)) (omega (arith, painted.countable)))

pub paint_band-requires-clause-marked : goal.paint_band-requires-clause-marked
paint_band-requires-clause-marked g c = let before = rw (← c.self.view_is) at c.requires.before in before.marks
