use Rattle.std.proofs.Common.{ℕ, ◌≡◌, ◌≤◌, false, arith, sym, ◌∙◌, bit_or, w64}
use Rattle.std.proofs.Math.Facts.{Fits-or, Fits-lt-pow}
use Rattle.std.proofs.lemmas.Bool.{ltb-true}
use Rattle.vp_glyph.proofs.Gathered.{neither, bits_below}
use Rattle.vp_dots.specs.Dots.{bit}
use Rattle.vp_dots.proofs.Bits.{bit_of_or}
use Rattle.vp_glyph.proofs.lines.is_plain.Goals as goal

pub returns : goal.returns
returns c = λ t.
    let blanks = c.are_byte.result in
    let signs = c.are_byte-2.result in
    let few = ltb-true c.args.most _ t in
    let none : (i : ℕ) → i ≤ c.args.most → (bit blanks i ≡ false) × (bit signs i ≡ false) = λ i l.
    neither (bit blanks i) (bit signs i) (sym (bit_of_or blanks signs i) ∙ bits_below (bit_or blanks signs) i (Fits-lt-pow {w = w64} (Fits-or {w = w64} {a = blanks} {b = signs} (omega (arith, c.are_byte.type_inv)) (omega (arith, c.are_byte-2.type_inv)))) (omega (arith, few))) in
    (omega arith, λ i l. (c.are_byte.ensures i (omega arith) (none i l).0, c.are_byte-2.ensures i (omega arith) (none i l).1))
