use Rattle.std.proofs.Common.{◌≡◌, ◌+◌, ◌*◌, ap, sym, arith, w64}
use Rattle.std.proofs.lemmas.Int.{to_z-of_z}
use Rattle.vp_glyph.specs.Cells.{font_width}
use Rattle.vp_bars.proofs.TextLines.{line_begun, line_next, line_ended, line_seen}
use Rattle.vp_bars.proofs.bar_box.paint_line.Goals as goal

pub loop-k-init : goal.loop-k-init
loop-k-init g c = (
  line_begun _ _ c.args.sheets.now c.args.font c.args.text.now c.args.y c.args.left c.seen-from.result.0 _ c.seen-from.ensures.first
      (rw c.width-width.ensures at c.seen-from.ensures.before),
  omega arith,
  omega arith,
)

pub loop-k-preserved : goal.loop-k-preserved
loop-k-preserved g c =
    let place : c.args.left + c.width-width.result * c.loop-k.k ≡ c.args.left + font_width c.args.font * c.loop-k.k = ap (λ w. c.args.left + w * c.loop-k.k) c.width-width.ensures in (
      line_next _ _ c.args.sheets.now c.args.font c.args.text.now c.args.y c.args.left _ _ _ _ _ _ _ c.loop-k.k _ (omega (arith, c.seen-from.ensures.last)) place
          c.cell-cell.ensures.sheets c.cell-cell.ensures.font c.cell-cell.ensures.style c.cell-cell.ensures.character c.loop-k.invariant.0 c.paint_cell.ensures,
      omega (arith, c.loop-k.invariant.1),
      omega arith,
    )

pub returns-clause-painted : goal.returns-clause-painted
returns-clause-painted g c = rw (sym (to_z-of_z w64 c.args.at c.ranges.at))
    (line_ended _ _ c.args.sheets.now c.args.font c.args.text.now c.args.y c.args.left c.loop-k.k c.seen-from.result.1 _ _ (omega arith)
    (rw c.width-width.ensures at c.seen-from.ensures.behind) c.loop-k.invariant.0)

pub returns-clause-most : goal.returns-clause-most
returns-clause-most g c = grind arith

pub returns-clause-some : goal.returns-clause-some
returns-clause-some g c = rw (sym (to_z-of_z w64 c.args.at c.ranges.at)) (λ d l e.
    let some = line_seen _ c.args.sheets.now c.args.font c.args.text.now c.args.y c.args.left c.seen-from.result.0 c.seen-from.result.1 d _
    (rw c.width-width.ensures at c.seen-from.ensures.before) (rw c.width-width.ensures at c.seen-from.ensures.behind) l e in
    omega (arith, some, c.loop-k.invariant.1))
