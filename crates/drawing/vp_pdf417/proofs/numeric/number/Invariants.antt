use Rattle.std.proofs.Common.{take}
use Rattle.vp_pdf417.specs.Numeric.{number}
use Rattle.vp_pdf417.specs.Written.{IsNumber, AreSmall}
use Rattle.vp_pdf417.proofs.numeric.number.Given as goal

abbrev pub invariant-loop-digit : goal.invariant-loop-digit
invariant-loop-digit l = record {
  number : IsNumber (number 1 (take l.digit-index l.digits)) l.places;
  small : AreSmall l.places;
}
