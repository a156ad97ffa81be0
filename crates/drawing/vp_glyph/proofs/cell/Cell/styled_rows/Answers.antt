use Rattle.std.proofs.Common.{ℕ, arith, ◌∙◌}
use Rattle.std.proofs.lemmas.List.{length-set, length-replicate}
use Rattle.vp_glyph.specs.Parts.{row_dot}
use Rattle.vp_glyph.proofs.Parts.{row_below, font_low}
use Rattle.vp_glyph.proofs.Printed.{words_none, words_more, words_all}
use Rattle.vp_glyph.proofs.cell.Cell.styled_rows.Goals as goal

pub loop-y-init : goal.loop-y-init
loop-y-init g c = record {
  count = length-replicate {A = ℕ} 24 0;
  rows_are = words_none 24 (λ x k. row_dot c.args.self.now.sheets.now c.args.self.now.font c.args.self.now.style c.args.self.now.character x k);
}

pub loop-y-preserved : goal.loop-y-preserved
loop-y-preserved g c =
    let cell = c.args.self.now in
    record {
      count = length-set c.loop-y.styled c.loop-y.y c.styled_row.result ∙ c.loop-y.invariant.count;
      rows_are = words_more c.loop-y.styled (λ x k. row_dot cell.sheets.now cell.font cell.style cell.character x k) c.loop-y.y c.styled_row.result (omega (arith, font_low cell.font)) c.loop-y.invariant.rows_are
          (c.styled_row.ensures cell.sheets.now cell.character c.loop-y.y (omega arith) (λ x l. c.requires x c.loop-y.y l (omega arith)));
    }

pub returns : goal.returns
returns g c = λ x y.
    let cell = c.args.self.now in
    words_all (λ x k. row_dot cell.sheets.now cell.font cell.style cell.character x k) c.loop-y.styled c.loop-y.y y x (c.loop-y.invariant.rows_are y x)
    (λ g. row_below cell.sheets.now cell.font cell.style cell.character x y (omega arith))
