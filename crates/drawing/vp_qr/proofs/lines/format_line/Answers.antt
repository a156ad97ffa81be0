use Rattle.std.proofs.Common.{ℕ, ◌<◌, ◌∙◌, ◌&&◌, ◌||◌, not, eqb, ap, arith, ◌-◌}
use Rattle.std.proofs.lemmas.Nat.{or_lt}
use Rattle.vp_qr.specs.Places.{size, corner, alignment, version_area}
use Rattle.vp_qr.specs.Symbol.{format_here}
use Rattle.vp_qr.proofs.Modules.{both, either, other}
use Rattle.vp_qr.proofs.RowParts.{or_grouped, one_column}
use Rattle.vp_qr.proofs.lines.format_line.Goals as goal

pub returns : goal.returns
unfolding format_here
returns c = λ (j : ℕ) (h : j < size c.args.version).
    let within : j < 63 = omega arith in
    let bits : j < 64 = omega arith in
    let dark = c.only.ensures j ∙ ap (λ b. eqb c.args.row (size c.args.version - 8) && b) (c.span.ensures j ∙ one_column 8 j) in
    let patterns = either j bits _ _ _ _ (either j bits _ _ _ _ (either j bits _ _ _ _ (c.corners.ensures j within) (c.timing.ensures j within)) (c.alignments.ensures j within)) (c.versions.ensures j within) in
    both j bits _ _ _ _ (c.corners-2.ensures j within)
    (other j bits _ _ (or_lt 64 _ _ (or_lt 64 _ _ (or_lt 64 _ _ (or_lt 64 _ _ c.corners.type_inv c.timing.type_inv) c.alignments.type_inv) c.versions.type_inv) c.only.type_inv)
    (either j bits _ _ _ _ patterns dark))
    ∙ ap (λ b. corner (size c.args.version) c.args.row j && not (((b || alignment c.args.version c.args.row j) || version_area c.args.version c.args.row j) || (eqb c.args.row (size c.args.version - 8) && eqb j 8)))
    (or_grouped _ (eqb c.args.row 6) (eqb j 6))
