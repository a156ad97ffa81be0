use Rattle.std.proofs.Common.{ℕ}
use Rattle.vp_field.specs.Matrices.{is_dark}
use Rattle.vp_field.proofs.DarkRuns.{Run}
use Rattle.vp_field.proofs.modules.paint_modules.Given as goal

-- the runs that end before this column are painted
abbrev pub invariant-loop-column : goal.invariant-loop-column
invariant-loop-column l = Run l.op l.fn.at l.modules.symbol.wide (λ (k : ℕ). is_dark l.modules.symbol l.modules.bytes.now l.line k) l.column l.from l.fn.row l.row
