use Rattle.std.proofs.Common.{◌+◌, ◌*◌, ◌≤◌, arith, refl, sym, w64}
use Rattle.std.proofs.Math.Nat.{mul-le-mul_left, mul-le-mul_right}
use Rattle.std.proofs.lemmas.Int.{to_z-of_z}
use Rattle.vp_glyph.specs.Blocks.{pieces, first}
use Rattle.vp_glyph.proofs.Handed.{line_unseen, seen_some}
use Rattle.vp_glyph.proofs.Pieces.{behind_all, behind_more, cell_is}
use Rattle.vp_glyph.proofs.Sides.{side_none, side_more, side_all}
use Rattle.vp_glyph.proofs.block.paint_line.Goals as goal

pub loop-i-init : goal.loop-i-init
loop-i-init g c = record {
  behind = record { first_is = c.behind_cells-rest.ensures.first; others_are = c.behind_cells-rest.ensures.others; within = omega (arith, c.seen-from.ensures.first) };
  place_is = omega arith;
  after = omega arith;
  counted = omega arith;
  painted = side_none _ _ c.args.sheet.now _ c.args.line.cells c.args.stretch.now.width c.args.h c.args.left c.args.y c.requires.cells c.requires.w c.seen-from.result.0 c.seen-from.ensures.before _;
}

pub unreachable-requires : goal.unreachable-requires
unreachable-requires g c = grind (arith, behind_all, c.loop-i.invariant.behind)

pub loop-i-preserved : goal.loop-i-preserved
loop-i-preserved g c = record {
  behind = behind_more c.loop-i._i _ _ _ _ c.loop-i.invariant.behind c.in-Some.ensures;
  place_is = omega arith;
  after = omega (arith, c.loop-i.invariant.after);
  counted = omega (arith, c.loop-i.invariant.after, c.loop-i.invariant.counted);
  painted = side_more _ _ c.args.sheet.now _ c.args.line.cells c.args.stretch.now.width c.args.h c.args.left c.args.y c.requires.cells c.requires.w c.loop-i._i c.in-Some.character c.loop-i.place (omega (arith, c.seen-from.ensures.last))
      (cell_is c.loop-i._i _ _ _ _ c.loop-i.invariant.behind c.in-Some.ensures) c.loop-i.invariant.place_is _ _ _ c.loop-i.invariant.painted (c.paint_cell.ensures c.args.h c.args.y c.requires.y (rw c.source_row-source.ensures refl));
}

pub overflow_add-painted : goal.overflow_add-painted
overflow_add-painted g c = grind (arith, mul-le-mul_right, c.requires.fits)

pub returns : goal.returns
returns g c = rw (sym (to_z-of_z w64 c.args.at c.ranges.at)) (record {
  painted = side_all _ _ c.args.sheet.now _ c.args.line.cells c.args.stretch.now.width c.args.h c.args.left c.args.y c.requires.cells c.requires.w c.loop-i._i c.seen-from.result.1 _ _ (omega arith) c.seen-from.ensures.behind c.loop-i.invariant.painted;
  most = omega (arith, c.loop-i.invariant.counted, c.seen-from.ensures.last);
  some = λ d l t. seen_some _ _
      (λ e. line_unseen _ c.args.sheet.now (first (pieces c.args.line.text.now)) c.args.line.cells c.args.stretch.now.width c.args.h c.args.left c.args.y _ _ _ d c.requires.cells
      (mul-le-mul_left c.args.stretch.now.width (omega (arith, e, c.loop-i.invariant.counted, c.loop-i.invariant.after))) c.seen-from.ensures.before c.seen-from.ensures.behind l)
      t;
})

pub paint_cell-requires : goal.paint_cell-requires
paint_cell-requires g c =
    let w = c.args.stretch.now.width in
    let m : w * (c.loop-i._i + 1) ≤ w * c.args.line.cells = mul-le-mul_left w (omega (arith, c.seen-from.ensures.last)) in
    omega (arith, m, c.loop-i.invariant.place_is)

pub overflow_add-place-in-loop-i : goal.overflow_add-place-in-loop-i
overflow_add-place-in-loop-i g c =
    let w = c.args.stretch.now.width in
    let m : w * (c.loop-i._i + 1) ≤ w * c.args.line.cells = mul-le-mul_left w (omega (arith, c.seen-from.ensures.last)) in
    omega (arith, m, c.loop-i.invariant.place_is)

pub overflow_cast-place : goal.overflow_cast-place
overflow_cast-place g c = let m : 1 * c.args.line.cells ≤ c.args.stretch.now.width * c.args.line.cells = mul-le-mul_right c.args.line.cells c.requires.w in omega (arith, m, c.seen-from.ensures.first)
