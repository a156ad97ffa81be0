use Rattle.std.proofs.Common.{take}
use Rattle.vp_bars.specs.Widths.{sized}
use Rattle.vp_bars.proofs.WordBars.{Marked}
use Rattle.vp_bars.proofs.strokes.Strokes.word.Given as goal

-- the elements so far
abbrev pub invariant-loop-e : goal.invariant-loop-e
invariant-loop-e l = Marked l.fn.bar (sized l.self.symbology l.self.narrow l.self.wide (take l.e-index l.elements)) l.word l.pen.x l.pen.bar
