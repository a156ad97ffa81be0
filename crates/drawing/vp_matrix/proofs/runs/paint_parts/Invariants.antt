use Rattle.std.proofs.Common.{ℕ, ◌+◌, ◌*◌}
use Rattle.vp_matrix.specs.declared.matrix.Matrix.TheVariants.{Pdf417}
use Rattle.vp_matrix.specs.Symbols.{is_dark}
use Rattle.vp_matrix.proofs.DarkRuns.{Run}
use Rattle.vp_matrix.proofs.runs.paint_parts.Given as goal

-- the runs that end before this part are painted
abbrev pub invariant-loop-k : goal.invariant-loop-k
invariant-loop-k l = Run l.op l.fn.at l.wide (λ (c : ℕ). is_dark (Pdf417 l.symbol) l.line c) (17 * l.k) l.from l.fn.row l.row

-- and those that end before this module of the part
abbrev pub invariant-loop-i : goal.invariant-loop-i
invariant-loop-i l = Run l.op l.fn.at l.wide (λ (c : ℕ). is_dark (Pdf417 l.symbol) l.line c) (17 * l.k + l.i) l.from l.fn.row l.row
