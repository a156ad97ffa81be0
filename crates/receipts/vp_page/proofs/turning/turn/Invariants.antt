use Rattle.std.proofs.Common.{◌+◌, ◌*◌, ◌&&◌, [], get_or}
use Rattle.vp_dots.specs.Dots.{dot, span}
use Rattle.vp_dots.specs.Places.{RowsPainted}
use Rattle.vp_dots.specs.declared.Op.TheVariants.{Black}
use Rattle.vp_page.specs.declared.page.TheConstants.{PAGE_ROWS}
use Rattle.vp_page.proofs.turning.turn.Given as goal

-- the columns before these are turned
abbrev pub invariant-loop-i : goal.invariant-loop-i
invariant-loop-i g l = RowsPainted PAGE_ROWS Black (λ x y. span (64 * l.first) (64 * (l.first + l.i)) x && dot (get_or l.turned x []) y) l.fn.upright l.upright
