use Rattle.std.proofs.Common.{arith, refl, length, sym, w64, ◌*◌}
use Rattle.std.proofs.Math.Nat.{mul-le-mul_left, mul-le-mul_right}
use Rattle.std.proofs.lemmas.Int.{to_z-of_z}
use Rattle.vp_glyph.proofs.Handed.{text_unseen, seen_some, no_text}
use Rattle.vp_glyph.proofs.Sides.{side_none, side_more, text_all, text_below}
use Rattle.vp_glyph.proofs.text.paint_cells.Goals as goal

pub returns-then-y-h : goal.returns-then-y-h
returns-then-y-h g c = record {
  painted = text_below _ _ _ _ _ _ _ _ c.if-y-h.true;
  most = omega arith;
  some = λ d l t. seen_some _ _ (λ e. no_text c.args.at c.args.sheet.now c.args.text.now c.args.stretch.now.width c.args.h c.args.y d c.if-y-h.true) t;
}

pub loop-k-init : goal.loop-k-init
loop-k-init g c = record {
  after = omega arith;
  counted = omega arith;
  painted = side_none _ _ c.args.sheet.now c.args.text.now (length c.args.text.now) c.args.stretch.now.width c.args.h 0 c.args.y (omega arith) c.requires.some c.seen-from.result.0 c.seen-from.ensures.before _;
}

pub loop-k-preserved : goal.loop-k-preserved
loop-k-preserved g c = record {
  after = omega (arith, c.loop-k.invariant.after);
  counted = omega (arith, c.loop-k.invariant.after, c.loop-k.invariant.counted);
  painted =
      side_more _ _ c.args.sheet.now c.args.text.now (length c.args.text.now) c.args.stretch.now.width c.args.h 0 c.args.y (omega arith) c.requires.some c.loop-k.k _ (c.args.stretch.now.width * c.loop-k.k) (omega (arith, c.seen-from.ensures.last)) refl (omega arith) _ _ _
      c.loop-k.invariant.painted (c.paint_cell.ensures c.args.h c.args.y c.if-y-h.false (rw c.source_row-source.ensures refl));
}

pub overflow_add-painted : goal.overflow_add-painted
overflow_add-painted g c = grind (arith, mul-le-mul_right, c.requires.fits)

pub returns : goal.returns
returns g c = rw (sym (to_z-of_z w64 c.args.at c.ranges.at)) (record {
  painted = text_all _ _ c.args.sheet.now c.args.text.now c.args.stretch.now.width c.args.h c.args.y c.requires.some c.loop-k.k c.seen-from.result.1 _ _ (omega arith) c.seen-from.ensures.behind c.loop-k.invariant.painted;
  most = omega (arith, c.loop-k.invariant.counted, c.seen-from.ensures.last, c.seen-from.ensures.few);
  some = λ d l t. seen_some _ _
      (λ e. text_unseen _ c.args.sheet.now c.args.text.now c.args.stretch.now.width c.args.h c.args.y _ _ _ d
      (mul-le-mul_left c.args.stretch.now.width (omega (arith, e, c.loop-k.invariant.counted, c.loop-k.invariant.after))) c.seen-from.ensures.before c.seen-from.ensures.behind l)
      t;
})
