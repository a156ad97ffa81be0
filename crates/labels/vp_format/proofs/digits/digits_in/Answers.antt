use Rattle.std.proofs.Common.{◌+◌, get_or, refl}
use Rattle.std.specs.Simd.Lanes.{top}
use Rattle.vp_format.specs.Codes.{code_of}
use Rattle.vp_format.proofs.Lanes.{digit_by, other, others, run_few, run_goes_on}
use Rattle.vp_format.proofs.digits.digits_in.Goals as goal

pub returns-clause-few : goal.returns-clause-few
returns-clause-few c = run_few other c.args.bytes.now _ c.args.at c.first_set.result c.requires (others c.args.bytes.now c.args.at c.requires) c.first_set.ensures

pub returns-clause-digits : goal.returns-clause-digits
unfolding code_of
returns-clause-digits c k l =
    digit_by (λ b. top 7 (other b)) (get_or c.args.bytes.now (c.args.at + k) 0) refl (c.type_inv.bytes (c.args.at + k)).fits
    (run_goes_on other c.args.bytes.now _ c.args.at c.first_set.result c.requires (others c.args.bytes.now c.args.at c.requires) c.first_set.ensures k l)
