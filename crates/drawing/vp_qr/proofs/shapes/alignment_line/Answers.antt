use Rattle.std.proofs.Common.{ℕ, ◌<◌, ◌≡◌, true, ap, ◌∙◌}
use Rattle.vp_qr.specs.Places.{alignment}
use Rattle.vp_qr.specs.Symbol.{apart}
use Rattle.vp_qr.proofs.ShapeLines.{alignment_words}
use Rattle.vp_qr.proofs.shapes.alignment_line.Goals as goal

pub returns : goal.returns
returns c = λ (j : ℕ) (h : j < 57) (here : alignment c.args.version c.args.row j ≡ true).
    alignment_words _ c.alignment_row-one.result j h c.alignment_row-one.ensures c.args.version c.args.row (c.abs_diff.ensures ∙ ap (λ n. apart n c.args.row) c.alignment_centre.ensures) here
