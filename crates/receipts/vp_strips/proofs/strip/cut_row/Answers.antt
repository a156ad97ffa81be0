use Rattle.std.proofs.Common.{ap, sym}
use Rattle.vp_page.specs.declared.page.TheConstants.{PAPER_BYTES}
use Rattle.vp_dots.specs.Images.{row_of}
use Rattle.vp_esc.specs.declared.item.Cut.{Cut}
use Rattle.vp_strips.specs.Rows.{cut_dot}
use Rattle.vp_strips.proofs.strip.cut_row.Goals as goal

pub returns-in-Full : goal.returns-in-Full
returns-in-Full c = ap (λ (cut : Cut). row_of PAPER_BYTES (cut_dot cut)) (sym c.in-Full.is)

pub returns-in-Partial : goal.returns-in-Partial
returns-in-Partial c = ap (λ (cut : Cut). row_of PAPER_BYTES (cut_dot cut)) (sym c.in-Partial.is)
