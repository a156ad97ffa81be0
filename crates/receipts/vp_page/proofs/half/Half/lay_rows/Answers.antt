use Rattle.std.proofs.Common.{◌&&◌, subst, ltb}
use Rattle.vp_dots.specs.Dots.{dot}
use Rattle.vp_dots.specs.Places.{RowsPainted}
use Rattle.vp_dots.specs.declared.Op.TheVariants.{Black}
use Rattle.vp_page.specs.Halves.{half_dot}
use Rattle.vp_page.specs.Lines.{row_in}
use Rattle.vp_page.proofs.HalfRows.{rows_dot}
use Rattle.vp_page.proofs.Rows.{rows_same}
use Rattle.vp_page.proofs.half.Half.lay_rows.Goals as goal

pub returns : goal.returns
returns g c = subst (λ old. RowsPainted g.row.H Black (half_dot c.args.area c.args.direction c.args.v (λ u w. ltb w c.args.rows && dot (row_in c.args.bytes.now c.args.wide w) u)) old c.lay_whole.new.band)
    c.self.view_is
    (rows_same g.row.H Black _ _ _ _ (λ x k h l. rows_dot c.args.area c.args.direction c.args.v c.top_of-top.result x k c.args.bytes.now c.args.wide c.args.rows (c.top_of-top.ensures.rows k)
    (c.top_of-top.ensures.order k)) c.lay_whole.ensures)
