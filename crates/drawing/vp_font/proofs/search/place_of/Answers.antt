use Rattle.std.proofs.Common.{arith}
use Rattle.vp_font.proofs.Glyphs.{low_before, high_behind}
use Rattle.vp_font.proofs.search.place_of.Goals as goal

pub loop-from-preserved-then-entry-code-2 : goal.loop-from-preserved-then-entry-code-2
loop-from-preserved-then-entry-code-2 c = record {
  order = omega (arith, c.loop-from-test.true);
  inside = c.loop-from.invariant.inside;
  low = low_before _ _ _ c.requires (omega (arith, c.loop-from-test.true, c.loop-from.invariant.inside)) _ c.if-entry-code-2.true;
  high = c.loop-from.invariant.high;
}

pub loop-from-preserved : goal.loop-from-preserved
loop-from-preserved c = record {
  order = omega (arith, c.loop-from-test.true);
  inside = omega (arith, c.loop-from-test.true, c.loop-from.invariant.inside);
  low = c.loop-from.invariant.low;
  high = high_behind _ _ _ c.requires (omega (arith, c.loop-from-test.true, c.loop-from.invariant.inside)) _ c.if-entry-code.false c.if-entry-code-2.false;
}
