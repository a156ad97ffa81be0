use Rattle.std.proofs.Common.{◌+◌, ◌/◌, refl}
use Rattle.vp_dots.proofs.Cuts.{cut_nine}
use Rattle.vp_dots.proofs.word.word_at.Goals as goal

pub returns-then-i-row : goal.returns-then-i-row
returns-then-i-row c x h = rw c.from.ensures (cut_nine c.args.row.now c.eight_at.result _ c.args.from x h (c.type_inv.row (c.args.from / 8 + 8)).fits c.eight_at.ensures refl)
