use Rattle.std.proofs.Common.{◌<◌, ◌≤◌, ◌-◌, ◌^◌, length, length-set, ◌∙◌, arith}
use Rattle.std.proofs.lemmas.Grind.{take-set_at}
use Rattle.vp_engine.proofs.OffsetLines.{some_lead, last_changed}
use Rattle.vp_engine.proofs.offset.Leading.go_to.Goals as goal

pub overflow_sub-self : goal.overflow_sub-self
overflow_sub-self c =
    let s = c.self.inside in
    let small : s.tens < 10 ^ 64 = omega (arith, c.if-self-tens.true, c.ranges.tens.fits) in
    omega (arith, some_lead s.digits s.count s.tens c.if-self-gt0.true small c.self.invariant.within c.self.invariant.digits)

pub invariant_of-self : goal.invariant_of-self
invariant_of-self c =
    let s = c.self.inside in
    let small : s.tens < 10 ^ 64 = omega (arith, c.if-self-tens.true, c.ranges.tens.fits) in
    let fits : s.count ≤ length s.digits = c.self.invariant.within in
    let count = some_lead s.digits s.count s.tens c.if-self-gt0.true small fits c.self.invariant.digits in
    record {
      within = omega (arith, fits, length-set s.digits);
      digits = take-set_at s.digits (s.count - 1) s.count _ (omega (arith, count)) (omega (arith, count, fits))
          ∙ last_changed s.digits s.count s.tens c.if-self-gt0.true small fits c.self.invariant.digits c.args.tens c.if-tens-gt0.true (omega (arith, c.ranges.tens.fits)) c.if-self-tens.true;
    }
