use Rattle.vp_bars.proofs.Bounds.{none_drawn, many_drawn}
use Rattle.vp_bars.proofs.laws.data_are_counted.Goals as goal

pub returns-clause-none : goal.returns-clause-none
returns-clause-none c = none_drawn

pub returns-clause-many : goal.returns-clause-many
returns-clause-many c = many_drawn
