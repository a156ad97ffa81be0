use Rattle.std.proofs.Common.{inl, inr, refl, ◌∙◌, ap, arith, get_or, leb, ◌&&◌, ◌-◌}
use Rattle.std.proofs.lemmas.Bool.{cases_lt, lt-leb, le-leb}
use Rattle.std.proofs.lemmas.Bool.Decides.{nat_tests}
use Rattle.vp_dots.specs.Dots.{bit, dot}
use Rattle.vp_dots.specs.Painting.{paint}
use Rattle.vp_dots.proofs.Rows.{dot_past}
use Rattle.vp_dots.proofs.Paints.{painted_same, painted_none, bytes_more, bytes_last}
use Rattle.vp_dots.proofs.Windows.{right_bits_later}
use Rattle.vp_dots.proofs.kernel.paint_skewed_right.Goals as goal

pub loop-i-init : goal.loop-i-init
loop-i-init c = painted_same _ _ _ _ _ (λ d l. grind (arith, nat_tests)) c.paint_byte_right.ensures

pub loop-i-preserved : goal.loop-i-preserved
loop-i-preserved c = bytes_more _ (λ d. leb c.args.s d && dot c.args.source.now (d - c.args.s)) _ _ _ _ (omega arith) c.loop-i.invariant (λ k h.
    c.painted_byte.ensures k h ∙ ap (λ b. paint c.args.op b (bit (get_or c.loop-i.row c.loop-i.i 0) k)) (c.window.ensures k h ∙ right_bits_later c.args.source.now c.args.s c.loop-i.i k c.requires h (omega arith)))

pub returns-then-n-eq0 : goal.returns-then-n-eq0
returns-then-n-eq0 c = painted_none _ _ _ (λ d l. elim (cases_lt d c.args.s) [
  | inl b ↦ rw (lt-leb c.args.s d b) refl
  | inr g ↦ rw (le-leb c.args.s d g) (dot_past c.args.source.now (d - c.args.s) (omega arith))
])

pub returns : goal.returns
returns c = bytes_last _ (λ d. leb c.args.s d && dot c.args.source.now (d - c.args.s)) c.loop-i.i _ _ _ _ (omega arith) c.loop-i.invariant c.paint_byte_right-2.ensures (λ d l m.
    rw (le-leb c.args.s d (omega arith)) (dot_past c.args.source.now (d - c.args.s) (omega arith)))
