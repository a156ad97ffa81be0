use Rattle.std.proofs.Common.{◌≡◌, take}
use Rattle.vp_bars.specs.Widths.{sized, total}
use Rattle.vp_bars.proofs.strokes.Strokes.width.Given as goal

-- the elements so far
abbrev pub invariant-loop-e : goal.invariant-loop-e
invariant-loop-e l = l.width ≡ total (sized l.self.symbology l.self.narrow l.self.wide (take l.e-index l.elements))
