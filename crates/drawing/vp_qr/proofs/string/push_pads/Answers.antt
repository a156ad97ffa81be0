use Rattle.std.proofs.Common.{◌++◌, ℕ, List, arith, ap, sym, ◌∙◌, append-nil}
use Rattle.vp_qr.proofs.Writing.{appended_more, pads_none, pads_more}
use Rattle.vp_qr.proofs.string.push_pads.Goals as goal

pub loop-k-init : goal.loop-k-init
loop-k-init c = (sym (ap (λ (l : List ℕ). c.args.words.now.items ++ l) pads_none ∙ append-nil c.args.words.now.items), omega arith)

pub loop-k-preserved : goal.loop-k-preserved
loop-k-preserved c = grind (arith, appended_more, pads_more)
