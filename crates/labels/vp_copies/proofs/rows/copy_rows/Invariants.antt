use Rattle.std.proofs.Common.{◌≡◌, ◌+◌, ◌*◌, ◌≤◌, ◌++◌, take, drop}
use Rattle.vp_dots.specs.Images.{Image, row_bytes}
use Rattle.vp_output.specs.Lines.{rows_from}
use Rattle.vp_output.specs.declared.place.Line.TheVariants.{Row}
use Rattle.vp_copies.specs.Copies.{lines_of}
use Rattle.vp_copies.specs.Progress.{IsPainted}
use Rattle.vp_copies.proofs.rows.copy_rows.Given as goal

-- k rows are copied, and what is behind them stands as it was
abbrev pub invariant-loop-k : goal.invariant-loop-k
invariant-loop-k g l = (i : Image) → i.width ≡ l.fn.width → l.fn.y + l.fn.rows ≤ i.height → IsPainted i (Row l.fn.y) l.fn.band →
    l.room ≡ take (l.k * row_bytes l.fn.width) (rows_from (lines_of i) l.fn.y) ++ drop (l.k * row_bytes l.fn.width) l.fn.room
