use Rattle.std.proofs.Common.{rules, w64, ◌∙◌}
use mir.Val.{SFits}
use Rattle.std.proofs.lemmas.Int.{to_z-of_z}
use Rattle.vp_closing.proofs.position.top_of.Goals as goal

pub returns-in-LowerLeft-Normal-clause-top : goal.returns-in-LowerLeft-Normal-clause-top
returns-in-LowerLeft-Normal-clause-top c =
    let b = c.before-in-LowerLeft-Normal in
    let fits : SFits w64 b.result = search (rules, b.ensures.low, b.ensures.high) in
    rw (c.in-LowerLeft-Normal.is-0, c.in-LowerLeft-Normal.is-1) (to_z-of_z w64 b.result fits ∙ b.ensures.is)
