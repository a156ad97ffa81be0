use Rattle.std.proofs.Common.{◌≡◌, ◌<◌, refl, arith}
use Rattle.vp_format.specs.declared.codes.Code.{Code}
use Rattle.vp_format.specs.declared.codes.Code.TheVariants.{Digit, Count, Fill, Above, Other}
use Rattle.vp_format.specs.Cursors.{digit_value}
use Rattle.vp_format.proofs.codes.code_of.Goals as goal

-- a code with a digit's value is that digit
digit : (c : Code) → digit_value c < 16 → Digit (digit_value c) ≡ c
digit (Digit v) h = refl
digit (Count n) h = absurd (omega (arith, h))
digit (Fill v) h = absurd (omega (arith, h))
digit Above h = absurd (omega (arith, h))
digit Other h = absurd (omega (arith, h))

pub returns-then-value-lt16-clause-code : goal.returns-then-value-lt16-clause-code
returns-then-value-lt16-clause-code c = grind (arith, digit)
