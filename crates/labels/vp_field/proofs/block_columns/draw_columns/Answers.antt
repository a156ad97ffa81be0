use Rattle.std.proofs.Common.{arith, rules, w64}
use mir.Val.{SFits}
use Rattle.std.proofs.lemmas.Int.{to_z-of_z}
use Rattle.vp_glyph.specs.Blocks.{block_dot, block_inside}
use Rattle.vp_glyph.specs.Layouts.{layout_of}
use Rattle.vp_field.proofs.Windowed.{laid_only, laid_drawn}
use Rattle.vp_field.proofs.block_columns.draw_columns.Goals as goal

pub draw_fronts-pieces-requires : goal.draw_fronts-pieces-requires
draw_fronts-pieces-requires g c = (omega arith, (omega arith, (omega (arith, c.window-window.ensures.to, c.requires.most), c.requires.white)))

pub returns-clause-only : goal.returns-clause-only
returns-clause-only g c =
    let b = c.args.block.now in
    let w = c.window-window in
    let fits : SFits w64 c.drawn_at-at.result = search rules in
    let drawn = rw (to_z-of_z w64 c.drawn_at-at.result fits) at c.draw_fronts-pieces.ensures.drawn in
    laid_only c.args.lying.columns c.args.lying.rows (block_dot (layout_of b) b.text.now) c.args.columns c.size-height.result.1 w.result.from w.result.to w.result.first c.args.first
    c.drawn_at-at.result c.draw_fronts-pieces.new.fronts (λ u v e. let i = (block_inside (layout_of b) b.text.now u v e).1 in omega (arith, i, c.size-height.ensures.height)) c.drawn_at-at.ensures.dots
    (λ i x h m n. drawn i x h m (omega (arith, n, c.size-height.ensures.height))) w.ensures.inside w.ensures.outside

pub returns-clause-drawn : goal.returns-clause-drawn
returns-clause-drawn g c =
    let b = c.args.block.now in
    let w = c.window-window in
    let fits : SFits w64 c.drawn_at-at.result = search rules in
    let drawn = rw (to_z-of_z w64 c.drawn_at-at.result fits) at c.draw_fronts-pieces.ensures.drawn in
    laid_drawn c.args.lying.columns c.args.lying.rows (block_dot (layout_of b) b.text.now) c.args.columns c.size-height.result.1 w.result.from w.result.to w.result.first c.args.first
    c.drawn_at-at.result c.draw_fronts-pieces.new.fronts (λ u v e. let i = (block_inside (layout_of b) b.text.now u v e).1 in omega (arith, i, c.size-height.ensures.height)) c.drawn_at-at.ensures.dots
    (λ i x h m n. drawn i x h m (omega (arith, n, c.size-height.ensures.height))) w.ensures.inside w.ensures.outside
