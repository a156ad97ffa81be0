use Rattle.std.proofs.Common.{◌+◌, ◌*◌, [], get_or, arith}
use Rattle.vp_dots.specs.Dots.{dot, span}
use Rattle.vp_dots.specs.declared.Op.TheVariants.{Black}
use Rattle.vp_page.specs.declared.page.TheConstants.{PAGE_ROWS}
use Rattle.vp_page.proofs.Rows.{rows_same, rows_then}
use Rattle.vp_page.proofs.SquaresTurned.{all_below, next_below}
use Rattle.vp_page.proofs.turning.turn_columns.Goals as goal

pub loop-row-preserved : goal.loop-row-preserved
loop-row-preserved g c = rows_then PAGE_ROWS _ _ _ _ _ _
    (λ x y. next_below c.loop-row.row y (span (64 * c.args.column) (64 * (c.args.column + 1)) x) (dot (get_or c.args.turned.now x []) y)) c.loop-row.invariant c.turn_square.ensures

pub returns : goal.returns
returns g c = rows_same PAGE_ROWS Black _ _ _ _
    (λ x y h l. all_below c.loop-row.row y (span (64 * c.args.column) (64 * (c.args.column + 1)) x) (dot (get_or c.args.turned.now x []) y) (omega (arith, h))) c.loop-row.invariant
