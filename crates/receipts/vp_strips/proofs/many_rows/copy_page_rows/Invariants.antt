use Rattle.std.proofs.Common.{◌≡◌, ◌*◌, ◌++◌, take, drop}
use Rattle.vp_receipt_settings.specs.Setup.{row_bytes}
use Rattle.vp_strips.specs.Jobs.{page_dot_of}
use Rattle.vp_strips.specs.Rows.{rows_text}
use Rattle.vp_strips.proofs.many_rows.copy_page_rows.Given as goal

-- k rows are copied, and what is behind them stands as it was
abbrev pub invariant-loop-k : goal.invariant-loop-k
invariant-loop-k g l = l.room ≡ take (l.k * row_bytes l.fn.paper) (rows_text l.fn.paper (page_dot_of l.fn.page.rows) l.fn.y l.fn.rows) ++ drop (l.k * row_bytes l.fn.paper) l.fn.room
