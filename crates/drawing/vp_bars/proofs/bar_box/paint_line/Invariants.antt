use Rattle.std.proofs.Common.{◌≡◌, ◌+◌, ◌≤◌, max}
use Rattle.vp_bars.proofs.TextLines.{LeftFrom}
use Rattle.vp_bars.proofs.bar_box.paint_line.Given as goal

-- the cells before k
abbrev pub invariant-loop-k : goal.invariant-loop-k
invariant-loop-k g l = LeftFrom l.op l.fn.at l.sheets l.font l.text l.y l.left l.fn.row l.row l.k × l.cells + l.from ≡ l.k × l.k ≤ max l.from l.to
