use Rattle.std.proofs.Common.{sym, ap, refl, subst}
use Rattle.vp_zpl.specs.declared.reader.ZplReader.{ZplReader}
use Rattle.vp_zpl.specs.Reader.{Ends, at_sign}
use Rattle.vp_zpl.proofs.Ends.{others_end}
use Rattle.vp_zpl.proofs.reader.ZplReader.end.Goals as goal

pub returns-in-Parameters : goal.returns-in-Parameters
returns-in-Parameters c reading before command sign stands any = c.end_parameters.ensures reading before command sign stands c.in-Parameters.is

pub returns-in_default : goal.returns-in_default
returns-in_default c reading before command sign stands any =
    let new : ZplReader = at_sign c.undecided.new.self sign in
    subst (λ i. Ends reading i new before command sign) (sym (c.undecided.ensures.shows new refl)) (others_end c.args.self.now.phase c.args.self.now new before command sign stands refl c.in_default.not-Parameters
    (ap (λ (s : ZplReader). s.reading) c.undecided.ensures.rest)
    (ap (λ (s : ZplReader). s.in_format) c.undecided.ensures.rest) (ap (λ (s : ZplReader). s.indicator) c.undecided.ensures.rest) refl)
