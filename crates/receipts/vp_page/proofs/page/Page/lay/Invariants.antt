use Rattle.std.proofs.Common.{◌-◌, ◌≤◌, List, ◌∷◌}
use Rattle.vp_page.specs.Layers.{Layer, Laid, first_rows}
use Rattle.vp_page.specs.Pages.{HasPage}
use Rattle.vp_page.proofs.page.Page.lay.Given as goal

-- the lines above this one are laid
abbrev pub invariant-loop-line : goal.invariant-loop-line
invariant-loop-line g l = record {
  within : l.line ≤ l.high;
  laid : (layers : List Layer) → HasPage layers l.fn.self
      → HasPage (Laid (first_rows l.line (record { area = l.fn.area; direction = l.fn.direction; top = l.fn.top; high = g.I.Ink.height l.fn.ink; dot = g.I.Ink.ink_at l.fn.ink })) ∷ layers) l.self;
}

abbrev pub decreases-loop-line : goal.decreases-loop-line
decreases-loop-line g l = l.high - l.line
