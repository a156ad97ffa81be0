use Rattle.vp_dots.specs.Dots.{dot}
use Rattle.vp_dots.specs.declared.Op.TheVariants.{Black}
use Rattle.vp_page.proofs.HalfRows.{first_dot, once_dot}
use Rattle.vp_page.proofs.Rows.{rows_same}
use Rattle.vp_page.proofs.half.Half.lay_row.Goals as goal

pub returns-then-stands_on_words : goal.returns-then-stands_on_words
returns-then-stands_on_words g c = rows_same g.row.H Black _ _ _ _ (λ x k h l. first_dot c.args.area c.args.direction c.args.v x k c.args.row.now) c.lay_rows.ensures

pub returns-else-stands_on_words : goal.returns-else-stands_on_words
returns-else-stands_on_words g c =
    rows_same g.row.H Black _ _ _ _ (λ x k h l. once_dot c.args.area c.args.direction c.args.v x k (dot c.lengthened.result) (dot c.args.row.now) c.lengthened.ensures) c.lay_times.ensures
