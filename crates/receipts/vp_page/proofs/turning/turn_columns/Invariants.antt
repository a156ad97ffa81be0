use Rattle.std.proofs.Common.{◌+◌, ◌*◌, ◌&&◌, ltb, [], get_or}
use Rattle.vp_dots.specs.Dots.{dot, span}
use Rattle.vp_dots.specs.Places.{RowsPainted}
use Rattle.vp_dots.specs.declared.Op.TheVariants.{Black}
use Rattle.vp_page.specs.declared.page.TheConstants.{PAGE_ROWS}
use Rattle.vp_page.proofs.turning.turn_columns.Given as goal

-- the squares above this one are turned
abbrev pub invariant-loop-row : goal.invariant-loop-row
invariant-loop-row g l = RowsPainted PAGE_ROWS Black (λ x y. span (64 * l.column) (64 * (l.column + 1)) x && (ltb y (64 * l.row) && dot (get_or l.turned x []) y)) l.fn.upright l.upright
