use Rattle.std.proofs.Common.{◌-◌, ◌≡◌, ◌<◌, ◌≤◌, false, List, ◌∷◌, get_or}
use Rattle.vp_page.specs.Layers.{Layer, Laid, first_rows, lines_mark}
use Rattle.vp_page.specs.Lines.{shown_lines}
use Rattle.vp_page.specs.Pages.{HasPage}
use Rattle.vp_page.proofs.page.Page.lay_lines.Given as goal

-- the lines before this one are laid
abbrev pub invariant-loop-i : goal.invariant-loop-i
invariant-loop-i g l = record {
  within : l.i ≤ l.shown;
  own : 0 < l.i → l.i < l.shown → get_or l.same l.i false ≡ false;
  laid : (layers : List Layer) → HasPage layers l.fn.self → HasPage (Laid (first_rows l.i (lines_mark l.fn.area l.fn.direction l.fn.v (shown_lines l.same l.lines))) ∷ layers) l.self;
}

abbrev pub decreases-loop-i : goal.decreases-loop-i
decreases-loop-i g l = l.shown - l.i
