use Rattle.std.proofs.Common.{◌≡◌, drop, cond}
use Rattle.vp_glyph.specs.Headers.{past_gap, past_comment}
use Rattle.vp_glyph.proofs.header.past_gap.Given as goal

-- what is left of the rest is what is left of all
abbrev pub invariant-loop-i : goal.invariant-loop-i
invariant-loop-i l = cond l.in_comment (past_comment (drop l.i l.text)) (past_gap (drop l.i l.text)) ≡ past_gap l.text
