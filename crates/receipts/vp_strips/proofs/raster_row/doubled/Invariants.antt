use Rattle.vp_strips.proofs.Doubling.{IsDoubled}
use Rattle.vp_strips.proofs.raster_row.doubled.Given as goal

abbrev pub invariant-loop-i : goal.invariant-loop-i
invariant-loop-i l = IsDoubled l.row l.i l.wide
