use Rattle.std.proofs.Common.{◌≡◌, ◌<◌, ◌+◌, ℕ, Bool, List, ◌∷◌}
use Rattle.vp_dots.specs.Dots.{dot}
use Rattle.vp_page.specs.Layers.{Layer, Laid, first_rows}
use Rattle.vp_page.specs.Pages.{HasPage}
use Rattle.vp_receipt.specs.PageMarks.{mark_of}
use Rattle.vp_receipt.proofs.raster_page.lay_times.Given as goal
use Rattle.vp_page.specs.declared.line.TheConstants.{LINE_DOTS}

-- the rows above this one are laid
abbrev pub invariant-loop-y : goal.invariant-loop-y
invariant-loop-y g l = (dots : ℕ → ℕ → Bool) (layers : List Layer) → ((u w : ℕ) → u < LINE_DOTS → w < l.fn.times → dot l.fn.row u ≡ dots u (l.fn.at + w))
    → HasPage (Laid (first_rows l.fn.at (mark_of l.fn.p 0 dots)) ∷ layers) l.fn.page
    → HasPage (Laid (first_rows (l.fn.at + l.y) (mark_of l.fn.p 0 dots)) ∷ layers) l.page
