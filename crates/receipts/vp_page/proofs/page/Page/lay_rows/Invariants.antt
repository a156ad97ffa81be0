use Rattle.std.proofs.Common.{List, ◌∷◌}
use Rattle.vp_page.specs.Layers.{Layer, Laid, first_rows, rows_mark}
use Rattle.vp_page.specs.Pages.{HasPage}
use Rattle.vp_page.proofs.page.Page.lay_rows.Given as goal

-- the rows above this one are laid
abbrev pub invariant-loop-k : goal.invariant-loop-k
invariant-loop-k g l = (layers : List Layer) → HasPage layers l.fn.self → HasPage (Laid (first_rows l.k (rows_mark l.fn.area l.fn.direction l.fn.v l.wide l.rows l.bytes)) ∷ layers) l.self
