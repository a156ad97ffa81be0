use Rattle.std.proofs.Common.{ℕ, sym, subst, w64}
use Rattle.std.proofs.lemmas.Int.{to_z-of_z}
use Rattle.vp_dots.specs.Dots.{shifted}
use Rattle.vp_dots.specs.Painting.{Painted}
use Rattle.vp_qr.specs.Inks.{ScaledSymbol, ink_of}
use Rattle.vp_qr.proofs.InkLines.{line_painted}
use Rattle.vp_qr.proofs.ink.QrInkInk.paint_row.Goals as goal

pub returns : goal.returns
returns c =
    subst (λ (s : ScaledSymbol). Painted c.args.op (shifted c.args.at (λ (x : ℕ). ink_of s x c.args.y)) c.args.row.now c.paint_line.new.row) c.self.view_is
    (rw (sym (to_z-of_z w64 c.args.at c.ranges.at))
    (line_painted c.args.op _ (record { size = c.self.inside.size; scale = c.self.inside.scale; rows = c.self.inside.rows }) c.args.y _ _ c.if-y-self.false c.paint_line.ensures))
