use Rattle.std.proofs.Common.{◌+◌}
use Rattle.vp_page.proofs.Kept.{kept_row}
use Rattle.vp_page.proofs.whiten.kept_by.Goals as goal

pub returns : goal.returns
returns g c = λ x h. kept_row g.row.B c.args.area.x (c.args.area.x + c.args.area.dx) x _ c.fill_dots.ensures h
