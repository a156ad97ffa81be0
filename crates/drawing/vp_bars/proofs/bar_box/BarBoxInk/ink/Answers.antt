use Rattle.std.proofs.Common.{◌∙◌, w64}
use Rattle.std.proofs.lemmas.Int.{to_z-of_z}
use Rattle.vp_bars.specs.InBox.{boxed}
use Rattle.vp_bars.specs.Boxes.{Boxed, box_dot}
use Rattle.vp_bars.proofs.Paints.{dot_shown}
use Rattle.vp_bars.proofs.bar_box.BarBoxInk.ink.Goals as goal

pub returns : goal.returns
returns g c =
    let s = c.args.self.now in
    let b : Boxed = boxed s in
    c.dot_of.ensures ∙ dot_shown _ (λ x. box_dot b x c.args.y) c.args.x _ (rw (to_z-of_z w64 c.back.result c.back.ensures.fits) c.back.ensures.back) c.paint_pieces.ensures.painted
