use Rattle.std.proofs.lemmas.Bool.Decides.{nat_tests}
use Rattle.std.proofs.Common.{rules, arith, w64}
use mir.Val.{SFits}
use Rattle.std.proofs.lemmas.Int.{ints, to_z-of_z}
use Rattle.vp_field.proofs.axis.Axis.flipped.Goals as goal

pub returns-in-Forward-clause-dots : goal.returns-in-Forward-clause-dots
returns-in-Forward-clause-dots c = grind (arith, nat_tests, to_z-of_z, ints)

pub returns-in-Forward-clause-near : goal.returns-in-Forward-clause-near
returns-in-Forward-clause-near c = grind (arith, to_z-of_z, ints)

pub returns-in-Back-clause-dots : goal.returns-in-Back-clause-dots
returns-in-Back-clause-dots c = λ p.
    let fits : SFits w64 c.from_end-in-Back.result = search rules in
    rw (to_z-of_z w64 c.from_end-in-Back.result fits, c.in-Back.is) (omega (arith, ints, c.from_end-in-Back.ensures))
