use Rattle.std.proofs.Common.{◌≡◌, ◌-◌, ◌*◌, ◌≤◌, ◌++◌, take, drop}
use Rattle.vp_receipt_settings.specs.Setup.{row_bytes}
use Rattle.vp_strips.specs.Jobs.{dot_in}
use Rattle.vp_strips.specs.Rows.{rows_text}
use Rattle.vp_strips.specs.Canvases.{canvas_of}
use Rattle.vp_strips.proofs.many_rows.copy_written_rows.Given as goal

-- k rows are copied, and what is behind them stands as it was
abbrev pub invariant-loop-k : goal.invariant-loop-k
invariant-loop-k g l = record {
  within : l.k ≤ l.fn.rows;
  copied : l.room ≡ take (l.k * row_bytes l.fn.paper) (rows_text l.fn.paper (dot_in l.fn.dots (canvas_of l.fn.canvas)) l.fn.y l.fn.rows) ++ drop (l.k * row_bytes l.fn.paper) l.fn.room;
}

abbrev pub decreases-loop-k : goal.decreases-loop-k
decreases-loop-k g l = l.rows - l.k

abbrev pub invariant-loop-j : goal.invariant-loop-j
invariant-loop-j g l = l.room ≡ take (l.j * row_bytes l.fn.paper) (rows_text l.fn.paper (dot_in l.fn.dots (canvas_of l.fn.canvas)) l.fn.y l.fn.rows) ++ drop (l.j * row_bytes l.fn.paper) l.fn.room
