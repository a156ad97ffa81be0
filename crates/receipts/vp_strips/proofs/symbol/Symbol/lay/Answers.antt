use Rattle.std.proofs.Common.{◌∷◌, sym, subst}
use Rattle.vp_bars.specs.Boxes.{Boxed, box_dot, box_height}
use Rattle.vp_page.specs.Layers.{Laid}
use Rattle.vp_page.specs.Pages.{HasPage}
use Rattle.vp_strips.proofs.symbol.Symbol.lay.Goals as goal

pub returns-in-Qr : goal.returns-in-Qr
returns-in-Qr g c = λ layers page. rw (c.in-Qr.is, sym c.from-top.ensures) (c.lay.ensures layers page)

pub returns-in-Bars : goal.returns-in-Bars
returns-in-Bars g c = λ layers page. rw (c.in-Bars.is, sym c.from-top.ensures) (
    subst (λ (b : Boxed). HasPage (Laid (record { area = c.args.area; direction = c.args.direction; top = c.from-top.result; high = box_height b; dot = box_dot b }) ∷ layers) c.lay-in-Bars.new.self)
    c.boxed.ensures (c.lay-in-Bars.ensures layers page))
