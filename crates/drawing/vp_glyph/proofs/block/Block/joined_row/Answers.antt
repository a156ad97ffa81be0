use Rattle.std.proofs.Common.{ℕ, arith, ◌∙◌, take, w64, to_z, of_z}
use Rattle.std.proofs.lemmas.Int.{to_z-of_z}
use Rattle.std.proofs.lemmas.List.{length-replicate}
use Rattle.vp_dots.specs.Dots.{dot}
use Rattle.vp_glyph.specs.Blocks.{pieces, first, line_dot}
use Rattle.vp_glyph.specs.Layouts.{layout_of, sheet_rows}
use Rattle.vp_glyph.proofs.Handed.{less_left}
use Rattle.vp_glyph.proofs.Joining.{joined_more, joined_all}
use Rattle.vp_glyph.proofs.Sheeted.{blackened, white_or}
use Rattle.vp_glyph.proofs.block.Block.joined_row.Goals as goal

pub loop-left-init : goal.loop-left-init
loop-left-init g c = grind (arith, length-replicate, white_or)

pub loop-left-preserved : goal.loop-left-preserved
loop-left-preserved g c =
    let b = c.args.self.now in
    let p = c.add_sheet_row-painted.ensures.painted in
    let line = c.hand_line.result.0 in
    let ink = λ (v : ℕ). line_dot (sheet_rows (layout_of b)) 0 (take line.cells (first (pieces line.text.now))) v c.args.s in
    record {
      count = p.length_is ∙ c.loop-left.invariant.count;
      joined = λ x l. joined_more b.sheet.now b.w b.h b.wide b.rows b.pitch b.alignment _ _ c.hand_line.result.0.cells c.args.s x (dot c.loop-left.row x) _ c.loop-left.left c.hand_line.result.1 c.in-Some.text c.hand_line.result.0.text.now _
          (c.loop-left.invariant.joined x l) c.in-Some.is c.hand_line.ensures.text c.hand_line.ensures.lines (blackened (to_z w64 (of_z w64 c.args.at)) ink c.loop-left.row _ x (omega (arith, c.loop-left.invariant.count)) p);
      counted = grind (arith, less_left, c.hand_line.ensures.less, c.in-Some.is, c.hand_line.ensures.counted);
      more = omega (arith, c.loop-left.invariant.more, c.hand_line.ensures.more, c.saturating_add.ensures);
      some = λ e. omega (arith, c.hand_line.ensures.counted, c.saturating_add.ensures);
    }

pub returns : goal.returns
returns g c = grind (arith, to_z-of_z, joined_all, c.loop-left.invariant.joined, c.loop-left.invariant.more)
