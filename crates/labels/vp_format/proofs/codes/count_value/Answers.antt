use Rattle.std.proofs.Common.{arith}
use Rattle.std.proofs.lemmas.List.FromFn.{get_or-map-range_with_len}
use Rattle.vp_format.specs.Codes.{code_of}
use Rattle.vp_format.specs.Cursors.{count_value}
use Rattle.vp_format.proofs.Quick.{count_few}
use Rattle.vp_format.proofs.codes.count_value.Goals as goal

-- the table has the value of each byte
pub returns-clause-value : goal.returns-clause-value
unfolding code_of
returns-clause-value c = get_or-map-range_with_len (λ b. count_value (code_of b)) 0 256 c.args.b c.args.b 0 (omega (arith, c.ranges.b.fits)) (omega arith)

pub returns-clause-few : goal.returns-clause-few
returns-clause-few c = omega (arith, returns-clause-value c, count_few c.args.b c.ranges.b.fits)
