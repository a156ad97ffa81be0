use Rattle.std.proofs.Common.{refl}
use Rattle.vp_page.specs.declared.line.TheConstants.{LINE_BYTES}
use Rattle.vp_page.proofs.Lines.{drawn}
use Rattle.vp_page.proofs.line.drawn.Goals as goal

pub returns : goal.returns
returns g c =
    drawn LINE_BYTES (g.I.Ink.width c.args.ink.now) (λ x. g.I.Ink.ink_at c.args.ink.now x c.args.y) _ c.paint_row.new.row
    refl c.requires (λ x t. (g.met.I.Ink.outside c.args.ink.now x c.args.y t).0) c.paint_row.ensures
