use Rattle.vp_esc.proofs.Rows.{row_is_unit}
use Rattle.vp_esc.proofs.laws.rows.Goals as goal

pub returns : goal.returns
returns c reading bytes r = row_is_unit reading bytes r
