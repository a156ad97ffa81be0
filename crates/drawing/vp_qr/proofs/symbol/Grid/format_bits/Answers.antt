use Rattle.std.proofs.Common.{arith}
use Rattle.vp_qr.specs.Walk.{dark}
use Rattle.vp_qr.proofs.Modules.{both}
use Rattle.vp_qr.proofs.FormatAcross.{not_in_timing}
use Rattle.vp_qr.proofs.FreeModules.{format_corner, only_column}
use Rattle.vp_qr.proofs.symbol.Grid.format_bits.Goals as goal

pub returns-then-places-eq0 : goal.returns-then-places-eq0
unfolding dark
returns-then-places-eq0 c = grind arith

pub returns : goal.returns
unfolding dark
returns c = grind (arith, both, format_corner, not_in_timing)

pub returns-then-row-ne8 : goal.returns-then-row-ne8
unfolding dark
returns-then-row-ne8 c = grind (arith, only_column)
