use Rattle.std.proofs.Common.{arith, ◌∙◌, ◌<◌, sym, ℕ}
use Rattle.vp_data_matrix.specs.Modules.{matrix_of, matrix_module, symbol_module}
use Rattle.vp_data_matrix.proofs.Regions.{white_row, made_dark, made_light, white_more}
use Rattle.vp_data_matrix.proofs.symbol.line.Goals as goal
use Rattle.vp_data_matrix.proofs.symbol.line.Goals.{then-is_dark, else-is_dark}

pub loop-column-init : goal.loop-column-init
loop-column-init c = record { long = omega arith; made = λ all h j lt. absurd (omega arith); white = λ j h. white_row 18 j }

pub loop-column-preserved : goal.loop-column-preserved
loop-column-preserved c =
    let size = c.args.size in
    let column = c.loop-column.column in
    let near : column < 144 = omega (arith, c.requires.sound.columns) in
    elim c.if-is_dark.branch [
      | then-is_dark w ↦
          rw w.line-is (record {
            long = w.paint_dot.ensures.length_is ∙ c.loop-column.invariant.long;
            made = λ all h. made_dark column c.loop-column.line w.paint_dot.new.row (λ (j : ℕ). symbol_module size (matrix_module (matrix_of size) all) c.args.row j)
                c.loop-column.invariant.long near w.paint_dot.ensures (sym w.if-is_dark.true ∙ c.is_dark.ensures all h) (c.loop-column.invariant.made all h);
            white = white_more column c.loop-column.line w.paint_dot.new.row c.loop-column.invariant.long near w.paint_dot.ensures c.loop-column.invariant.white;
          })
      | else-is_dark w ↦
          rw w.line-is (record {
            long = c.loop-column.invariant.long;
            made = λ all h. made_light column c.loop-column.line (λ (j : ℕ). symbol_module size (matrix_module (matrix_of size) all) c.args.row j)
                (c.loop-column.invariant.white column (omega arith)) (sym w.if-is_dark.false ∙ c.is_dark.ensures all h) (c.loop-column.invariant.made all h);
            white = λ (j : ℕ) h. c.loop-column.invariant.white j (omega arith);
          })
    ]
