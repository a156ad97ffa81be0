use Rattle.std.proofs.Common.{ℕ, ◌<◌, ◌∙◌, ◌||◌, not, eqb, ap, arith}
use Rattle.std.proofs.lemmas.Nat.{or_lt}
use Rattle.vp_qr.specs.Places.{size, alignment, version_area, reserved}
use Rattle.vp_qr.proofs.Modules.{either, other}
use Rattle.vp_qr.proofs.RowParts.{or_grouped}
use Rattle.vp_qr.proofs.lines.free_line.Goals as goal

pub returns : goal.returns
unfolding reserved
returns c = λ (j : ℕ) (h : j < size c.args.version).
    let within : j < 63 = omega arith in
    let bits : j < 64 = omega arith in
    other j bits _ _ (or_lt 64 _ _ (or_lt 64 _ _ (or_lt 64 _ _ c.corners.type_inv c.timing.type_inv) c.alignments.type_inv) c.versions.type_inv)
    (either j bits _ _ _ _ (either j bits _ _ _ _ (either j bits _ _ _ _ (c.corners.ensures j within) (c.timing.ensures j within)) (c.alignments.ensures j within)) (c.versions.ensures j within))
    ∙ ap (λ b. not ((b || alignment c.args.version c.args.row j) || version_area c.args.version c.args.row j)) (or_grouped _ (eqb c.args.row 6) (eqb j 6))
