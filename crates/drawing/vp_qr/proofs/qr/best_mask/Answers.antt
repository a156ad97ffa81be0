use Rattle.std.proofs.Common.{ℕ, ◌<◌, get_or-set_same, get_or-set_other, length-set, ap, ◌∙◌, arith}
use Rattle.vp_qr.specs.Places.{size}
use Rattle.vp_qr.specs.Penalty.{penalty}
use Rattle.vp_qr.specs.Encoding.{masked, least_place, best_mask}
use Rattle.vp_qr.proofs.Counting.{penalty_same}
use Rattle.vp_qr.proofs.Choosing.{penalties_are}
use Rattle.vp_qr.proofs.qr.best_mask.Goals as goal

pub loop-mask-preserved : goal.loop-mask-preserved
loop-mask-preserved c = grind (arith, get_or-set_other, get_or-set_same, length-set, penalty_same)

pub returns-clause-mask : goal.returns-clause-mask
unfolding best_mask
returns-clause-mask c = λ codewords of.
    c.least.ensures.place
    ∙ ap least_place
    (penalties_are c.loop-mask.penalties (λ (k : ℕ). penalty (masked c.args.level c.args.grid.now.version codewords k) (size c.args.grid.now.version)) c.loop-mask.invariant.0
    (λ (k : ℕ) (h : k < 8). c.loop-mask.invariant.1 codewords of k (omega arith)))
