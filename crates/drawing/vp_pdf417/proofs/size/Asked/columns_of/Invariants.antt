use Rattle.std.proofs.Common.{◌≡◌, ◌-◌}
use Rattle.vp_pdf417.specs.Text.{first_from}
use Rattle.vp_pdf417.specs.Sizes.{fits}
use Rattle.vp_pdf417.proofs.size.Asked.columns_of.Given as goal

abbrev pub invariant-loop-columns : goal.invariant-loop-columns
invariant-loop-columns l = first_from (fits l.self l.all) l.columns (31 - l.columns) ≡ first_from (fits l.self l.all) 1 30
