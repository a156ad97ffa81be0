use Rattle.std.proofs.Common.{arith}
use Rattle.std.proofs.lemmas.Bool.{lt-ltb}
use Rattle.vp_field.proofs.Pictured.{row_is}
use Rattle.vp_field.proofs.picture_rows.PictureRows.next_row.Goals as goal

pub returns-clause-dots : goal.returns-clause-dots
returns-clause-dots c = grind (arith, lt-ltb, row_is)
