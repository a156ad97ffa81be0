use Rattle.std.proofs.Common.{arith}
use Rattle.vp_field.proofs.OnLabel.{shown_same}
use Rattle.vp_field.proofs.standing.paint_standing.Goals as goal

pub returns-clause-counted : goal.returns-clause-counted
returns-clause-counted g c = grind arith

pub returns-clause-dots : goal.returns-clause-dots
returns-clause-dots g c = grind (arith, shown_same)
