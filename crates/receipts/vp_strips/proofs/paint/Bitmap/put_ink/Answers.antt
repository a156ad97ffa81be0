use Rattle.std.proofs.Common.{◌≡◌, ◌-◌, arith}
use Rattle.vp_page.specs.Lines.{shown_lines}
use Rattle.vp_receipt_settings.specs.declared.text.TheConstants.{LINE_ROWS}
use Rattle.vp_strips.proofs.OwnRows.{painted_each}
use Rattle.vp_strips.proofs.SameRows.{dots_more, each_shown, painted_clear, shown_long}
use Rattle.vp_strips.proofs.paint.Bitmap.put_ink.Goals as goal

pub invariant_of-self : goal.invariant_of-self
invariant_of-self g c =
    let high : LINE_ROWS - (LINE_ROWS - c.size-high.result.1) ≡ c.size-high.result.1 = omega (arith, c.size-high.ensures.height, c.requires) in (
      rw (c.max-self-inside.ensures, ← high) (painted_clear c.self.inside.used (LINE_ROWS - c.size-high.result.1) c.args.at (g.I.Ink.ink_at c.args.ink.now) c.part_told.new.same _ _ (omega arith) c.part_told.ensures.clear
          (painted_each c.part_told.new.same _ _ _ c.part_told.ensures.each c.paint_ink.ensures)),
      λ _. c.part_told.ensures.each,
    )

pub returns : goal.returns
returns g c = λ line has.
    dots_more line c.args.at (g.I.Ink.width c.args.ink.now) (g.I.Ink.height c.args.ink.now) (g.I.Ink.ink_at c.args.ink.now) (shown_lines c.self.inside.same c.self.inside.band) _
    (each_shown _ c.part_told.new.same _ c.part_told.new.band c.paint_ink.new.band c.part_told.ensures.each c.part_told.ensures.clear.rows_are (shown_long c.self.inside.same c.self.inside.band c.self.invariant.0.rows_are) c.part_told.ensures.shows
    (rw c.size-high.ensures.height at c.paint_ink.ensures)) (rw (← c.self.view_is) at has)
