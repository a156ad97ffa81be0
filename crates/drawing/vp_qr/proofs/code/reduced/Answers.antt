use Rattle.std.proofs.Common.{arith}
use Rattle.vp_qr.proofs.Remainders.{reduced_set, reduced_clear, reduced_small}
use Rattle.vp_qr.proofs.code.reduced.Goals as goal

pub returns-then-number-degree-eq1-clause-value : goal.returns-then-number-degree-eq1-clause-value
returns-then-number-degree-eq1-clause-value c = grind (arith, reduced_set)

pub returns-then-number-degree-eq1-clause-most : goal.returns-then-number-degree-eq1-clause-most
returns-then-number-degree-eq1-clause-most c = reduced_small c.args.polynomial c.args.place c.args.number c.requires.polynomial c.requires.place c.requires.number

pub returns-clause-value : goal.returns-clause-value
returns-clause-value c = reduced_clear c.args.polynomial c.args.degree c.args.place c.args.number c.if-number-degree-eq1.false
