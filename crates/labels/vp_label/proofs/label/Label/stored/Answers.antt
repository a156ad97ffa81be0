use Rattle.std.proofs.Common.{arith}
use Rattle.std.proofs.lemmas.Bool.{cases_Bool, cases_lt}
use Rattle.vp_label.proofs.Counts.{no_stored}
use Rattle.vp_label.proofs.label.Label.stored.Goals as goal

pub returns-then-not-holds_format-clause-value : goal.returns-then-not-holds_format-clause-value
returns-then-not-holds_format-clause-value g c = grind (arith, cases_lt, cases_Bool, no_stored)
