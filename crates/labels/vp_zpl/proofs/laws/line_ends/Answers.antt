use Rattle.std.proofs.Common.{rules}
use Rattle.vp_zpl.proofs.Cuts.{line_end-cut, line_end-items}
use Rattle.vp_zpl.proofs.laws.line_ends.Goals as goal

pub returns : goal.returns
returns c reading bytes b e w = (line_end-items reading bytes b (search rules) w, line_end-cut reading bytes b (search rules) w)
