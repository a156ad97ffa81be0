use Rattle.vp_label.proofs.Idle.{data_print}
use Rattle.vp_label.proofs.Stores.{last_refused}
use Rattle.vp_label.proofs.laws.data_in_turn.Goals as goal

pub returns-clause-silent : goal.returns-clause-silent
returns-clause-silent c = data_print

pub returns-clause-full : goal.returns-clause-full
returns-clause-full c = last_refused
