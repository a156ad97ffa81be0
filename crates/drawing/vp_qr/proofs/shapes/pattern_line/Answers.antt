use Rattle.std.proofs.Common.{◌≡◌, ℕ, ◌%◌, ◌<◌, ◌&&◌, Bool, true, eqb, arith}
use Rattle.vp_qr.specs.Places.{size}
use Rattle.vp_qr.specs.Penalty.{is_set}
use Rattle.vp_qr.proofs.RowParts.{one_column, all_columns}
use Rattle.vp_qr.proofs.ShapeLines.{even_columns, pattern_is}
use Rattle.vp_qr.proofs.shapes.pattern_line.Goals as goal

whole : (b : Bool) → (b && true) ≡ b
whole b = grind arith

pub returns : goal.returns
returns c = λ (j : ℕ) (h : j < size c.args.version).
    let within : j < 63 = omega arith in
    let bits : j < 64 = omega arith in
    let near : j < 57 = omega arith in
    rw (
      c.chosen.ensures j bits,
      c.corners.ensures j within,
      c.chosen-row_six.ensures j bits,
      c.only-2.ensures j,
      c.span-4.ensures j,
      all_columns (eqb c.args.row 6) j within,
      even_columns j bits,
      c.chosen-column_six.ensures j bits,
      c.span-2.ensures j,
      one_column 6 j,
    )
    (rw (c.chosen-alignment_too.ensures j bits, c.alignments.ensures j within, c.chosen-version_too.ensures j bits, c.versions.ensures j within, c.only-dark_module.ensures j, c.span.ensures j, one_column 8 j)
    (pattern_is c.args.version c.args.code c.args.row j (is_set c.finder_line.result j) (is_set c.only.result j) (is_set c.alignment_line.result j) (is_set c.version_line.result j) (c.finder_line.ensures j h)
    (λ six. rw (c.only.ensures j, c.span-3.ensures j, one_column 6 j, six) (whole (eqb (c.args.row % 2) 0))) (c.alignment_line.ensures j near) (c.version_line.ensures j h)))
