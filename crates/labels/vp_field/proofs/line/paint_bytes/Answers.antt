use Rattle.std.proofs.Common.{arith}
use Rattle.std.proofs.lemmas.Int.{to_z-of_z}
use Rattle.vp_dots.proofs.Paints.{painted_same}
use Rattle.vp_field.proofs.AsWhole.{cut_line}
use Rattle.vp_field.proofs.line.paint_bytes.Goals as goal

pub returns : goal.returns
returns c = grind (arith, to_z-of_z, painted_same, cut_line)
