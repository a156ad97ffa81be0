use Rattle.std.proofs.Common.{refl, arith}
use Rattle.vp_zpl.specs.Reader.{Stands}
use Rattle.vp_zpl.proofs.Phases.{at_phase, at_indicator}
use Rattle.vp_zpl.proofs.Runs.{front_is, fits, front_ran}
use Rattle.vp_zpl.proofs.reader.ZplReader.take_data.Goals as goal

pub returns-clause-count : goal.returns-clause-count
unfolding Stands
returns-clause-count c reading bytes stands = grind (arith, front_is, at_phase, at_indicator)

pub returns-clause-fits : goal.returns-clause-fits
returns-clause-fits c = omega (arith, c.front-n.ensures, fits c.args.self.now.phase c.args.self.now.indicator c.args.input.now)

pub returns-clause-gives : goal.returns-clause-gives
returns-clause-gives c reading bytes n stands few =
    (front_ran c.args.self.now.phase c.args.self.now n bytes c.args.input.now refl (omega (arith, c.front-n.ensures, few)) stands).gives

pub returns-clause-stands : goal.returns-clause-stands
returns-clause-stands c reading bytes stands = grind (arith, front_ran)
