use Rattle.std.proofs.Common.{◌+◌, ◌∙◌, sym, arith}
use Rattle.std.proofs.lemmas.Int.{to_z-of_z}
use Rattle.vp_glyph.proofs.Handed.{seen_some, lines_fit}
use Rattle.vp_glyph.proofs.Sheeted.{drawn_narrow}
use Rattle.vp_glyph.proofs.Passed.{white_row}
use Rattle.vp_glyph.specs.Blocks.{block_dot}
use Rattle.vp_glyph.specs.Layouts.{layout_of}
use Rattle.vp_dots.proofs.Shifts.{shifted_none}
use Rattle.vp_glyph.proofs.block.Block.drawn_rows.Goals as goal

pub returns-then-self : goal.returns-then-self
returns-then-self g c =
    let b = c.args.self.now in
    record {
      drawn = λ k x l m n. drawn_narrow b.sheet.now b.w b.h b.wide b.rows b.pitch b.alignment (c.args.top + k) c.args.at 160 b.text.now _ x c.if-self.true (c.rows.ensures k x l m ∙ c.new-rows.ensures k x);
      most = omega arith;
      some = λ k x l m t. seen_some _ _ (λ e. c.rows.ensures k x l m ∙ c.new-rows.ensures k x) t;
    }

pub returns : goal.returns
returns g c = grind (arith, to_z-of_z, lines_fit, seen_some, c.draw_lines-drawn.ensures.dots)

pub returns-then-from-row_below_lines : goal.returns-then-from-row_below_lines
returns-then-from-row_below_lines g c =
    let b = c.args.self.now in
    record {
      drawn = λ k x l m n. white_row 32 160 k x
          ∙ sym (shifted_none c.args.at (λ v. block_dot (layout_of b) b.text.now v (c.args.top + k)) x (λ v. c.row_below_lines.ensures v (c.args.top + k) (omega (arith, c.if-from-row_below_lines.true)) (omega (arith, n, b.fits))));
      most = omega arith;
      some = λ k x l m t. seen_some _ _ (λ e. white_row 32 160 k x) t;
    }
