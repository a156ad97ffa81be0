use Rattle.std.proofs.Common.{arith, ap, ◌∙◌, ◌≡◌, drop, get_or, length, bit_xor}
use Rattle.vp_qr.specs.Polynomial.{plus, scaled}
use Rattle.vp_qr.specs.Divisors.{low_row}
use Rattle.vp_qr.proofs.Division.{registers_none, registers_more, length_check, length_scaled}
use Rattle.vp_qr.proofs.Multiples.{length_row, moved, check_first}
use Rattle.vp_qr.proofs.check.check_by.Goals as goal

pub loop-byte-init : goal.loop-byte-init
loop-byte-init c = registers_none (low_row c.args.n) c.args.src.now 32

pub loop-byte-preserved : goal.loop-byte-preserved
loop-byte-preserved c =
    registers_more (low_row c.args.n) c.args.src.now 32 c.loop-byte.byte-index c.loop-byte.register c.shifted-register.result
    (length_row c.args.n (omega (arith, c.requires.most))) (omega arith) c.loop-byte-test.true c.loop-byte.invariant
    (let element = bit_xor (get_or c.args.src.now c.loop-byte.byte-index 0) (get_or c.loop-byte.register 0 0) in
    let row : c.row_of.result.now ≡ scaled element (low_row c.args.n) = c.row_of.ensures.row ∙ c.requires.rows element c.row_of.ensures.element in
    let size : length c.row_of.result.now ≡ 32 = ap length row ∙ length_scaled element (low_row c.args.n) ∙ length_row c.args.n (omega (arith, c.requires.most)) in
    moved c.loop-byte.register c.row_of.result.now c.shifted-register.result c.loop-byte.invariant.size size c.shifted-register.ensures.len c.shifted-register.ensures.terms
    ∙ ap (plus (drop 1 c.loop-byte.register)) row)

pub returns-clause-remainder : goal.returns-clause-remainder
returns-clause-remainder c = c.first.ensures ∙ check_first c.args.n c.loop-byte.byte-index c.args.src.now c.loop-byte.register c.requires.most c.loop-byte-test.false c.loop-byte.invariant

pub returns-clause-count : goal.returns-clause-count
returns-clause-count c = grind (arith, check_first, length_check)
