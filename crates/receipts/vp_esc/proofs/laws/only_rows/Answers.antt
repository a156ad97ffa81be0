use Rattle.vp_esc.proofs.OnlyRows.{only_rows_lem}
use Rattle.vp_esc.proofs.laws.only_rows.Goals as goal

pub returns : goal.returns
returns c reading bytes u = only_rows_lem reading bytes u
