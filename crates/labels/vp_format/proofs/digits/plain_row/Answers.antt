use Rattle.std.proofs.Common.{◌+◌, ◌-◌, ◌*◌, ◌/◌, length, get_or, arith}
use Rattle.vp_format.specs.Codes.{code_of}
use Rattle.vp_format.specs.Cursors.{digit_value}
use Rattle.vp_format.proofs.Nibbles.{nibble_of_values}
use Rattle.vp_format.proofs.Plain.{digits_more, bytes_more}
use Rattle.vp_format.proofs.digits.plain_row.Goals as goal

pub loop-i-preserved : goal.loop-i-preserved
loop-i-preserved c = grind (arith, digits_more c.args.bytes.now c.args.at c.loop-i.i 32, bytes_more c.args.bytes.now c.loop-i.row c.pack_wide.new.row c.args.at c.loop-i.i 32)

pub loop-i-2-preserved : goal.loop-i-2-preserved
loop-i-2-preserved c = grind (arith, digits_more c.args.bytes.now c.args.at c.loop-i-2.i 8, bytes_more c.args.bytes.now c.loop-i-2.row c.pack_digits.new.row c.args.at c.loop-i-2.i 8)

pub returns-then-i-n-clause-packed : goal.returns-then-i-n-clause-packed
returns-then-i-n-clause-packed c _ j m = grind (arith, nibble_of_values c.loop-i-2.row (λ i. digit_value (code_of (get_or c.args.bytes.now (c.args.at + i) 0))) j, c.loop-i-2.invariant.packed (j / 2), c.loop-i-2.invariant.digits (2 * (j / 2) + 1))

pub returns-clause-digits : goal.returns-clause-digits
returns-clause-digits c all k l =
    let n = length c.args.row.now in
    digits_more c.args.bytes.now c.args.at (n - 8) 8 (λ i b. c.loop-i-2.invariant.digits i (omega (arith, b))) (c.pack_digits-2.ensures.digits all) k (omega (arith, l))

pub returns-clause-packed : goal.returns-clause-packed
returns-clause-packed c all j m =
    let n = length c.args.row.now in let k = j / 2 in let row = c.pack_digits-2.new.row in
    let packed = bytes_more c.args.bytes.now c.loop-i-2.row row c.args.at (n - 8) 8 c.pack_digits-2.ensures.kept (λ i b. c.loop-i-2.invariant.packed i (omega (arith, b))) (c.pack_digits-2.ensures.packed all) k (omega (arith, m)) in
    nibble_of_values row (λ i. digit_value (code_of (get_or c.args.bytes.now (c.args.at + i) 0))) j packed (returns-clause-digits c all (2 * k + 1) (omega (arith, m)))
