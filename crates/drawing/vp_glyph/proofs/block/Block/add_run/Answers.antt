use Rattle.std.proofs.Common.{ℕ, ◌-◌, ◌≡◌, rules, arith, length, take, get_or, [], sym, w64, to_z, of_z}
use Rattle.std.proofs.lemmas.Int.{to_z-of_z}
use Rattle.vp_dots.specs.Dots.{shifted}
use Rattle.vp_glyph.specs.Blocks.{pieces, first, line_dot}
use Rattle.vp_glyph.specs.Layouts.{layout_of, sheet_rows}
use Rattle.vp_glyph.proofs.Passed.{runs_down, runs_up}
use Rattle.vp_glyph.proofs.Sheeted.{blackened}
use Rattle.vp_glyph.proofs.block.Block.add_run.Goals as goal

pub returns-then-to-eq-ROWS : goal.returns-then-to-eq-ROWS
returns-then-to-eq-ROWS g c =
    let r = c.args.rows.now in
    let ink = λ (v : ℕ). line_dot (sheet_rows (layout_of c.args.self.now)) 0 (take c.args.line.cells (first (pieces c.args.line.text.now))) v c.args.s in
    record {
      dots = λ k x l h.
          let wide : length (get_or r.down c.args.from []) ≡ 160 = search rules in
          runs_down r.alone r.down r.up 32 k x l c.args.from c.args.to _ (shifted c.args.at ink x) c.if-to-eq-ROWS.true (search rules)
          (rw (sym (to_z-of_z w64 c.args.at c.ranges.at)) (blackened (to_z w64 (of_z w64 c.args.at)) ink _ _ x (omega (arith, wide)) c.add_sheet_row-painted.ensures.painted));
      counted = omega (arith, c.saturating_add.ensures);
      most = omega (arith, c.saturating_add.ensures, c.add_sheet_row-painted.ensures.most);
    }

pub returns-then-from-eq0 : goal.returns-then-from-eq0
returns-then-from-eq0 g c =
    let r = c.args.rows.now in
    let ink = λ (v : ℕ). line_dot (sheet_rows (layout_of c.args.self.now)) 0 (take c.args.line.cells (first (pieces c.args.line.text.now))) v c.args.s in
    record {
      dots = λ k x l h.
          let wide : length (get_or r.up (32 - c.args.to) []) ≡ 160 = search rules in
          runs_up r.alone r.down r.up 32 k x l c.args.from c.args.to _ (shifted c.args.at ink x) c.if-from-eq0.true c.requires.some c.requires.to (search rules)
          (rw (sym (to_z-of_z w64 c.args.at c.ranges.at)) (blackened (to_z w64 (of_z w64 c.args.at)) ink _ _ x (omega (arith, wide)) c.add_sheet_row-painted-then-from-eq0.ensures.painted));
      counted = omega (arith, c.saturating_add-then-from-eq0.ensures);
      most = omega (arith, c.saturating_add-then-from-eq0.ensures, c.add_sheet_row-painted-then-from-eq0.ensures.most);
    }

pub returns : goal.returns
returns g c = grind (arith, to_z-of_z, c.sheet_row.ensures.row)
