use Rattle.std.proofs.Common.{ℕ}
use Rattle.vp_matrix.specs.Symbols.{is_dark}
use Rattle.vp_matrix.proofs.DarkRuns.{Run}
use Rattle.vp_matrix.proofs.runs.paint_modules.Given as goal

-- the runs that end before this column are painted
abbrev pub invariant-loop-column : goal.invariant-loop-column
invariant-loop-column l = Run l.op l.fn.at l.wide (λ (k : ℕ). is_dark l.symbol l.line k) l.column l.from l.fn.row l.row
