use Rattle.std.proofs.Common.{◌&&◌, subst, arith, ltb}
use Rattle.vp_dots.specs.Dots.{dot}
use Rattle.vp_dots.specs.Places.{RowsPainted}
use Rattle.vp_dots.specs.declared.Op.TheVariants.{Black}
use Rattle.vp_page.specs.Halves.{half_dot}
use Rattle.vp_page.proofs.HalfRows.{line_dot}
use Rattle.vp_page.proofs.Rows.{rows_same}
use Rattle.vp_page.proofs.half.Half.lay_times.Goals as goal

pub returns : goal.returns
returns g c = subst (λ old. RowsPainted g.row.H Black (half_dot c.args.area c.args.direction c.args.v (λ u w. ltb w c.args.times && dot c.args.line.now u)) old c.lay_times.new.band) c.self.view_is
    (rows_same g.row.H Black _ _ _ _ (λ x k h l. line_dot c.args.area c.args.direction c.args.v c.top_of-top.result x k c.args.times c.args.line.now _ (c.top_of-top.ensures.rows k)
    (c.row_along-row.ensures x (let n = c.self.invariant.white.rows_are k h in omega (arith, l, n)))) c.lay_times.ensures)
