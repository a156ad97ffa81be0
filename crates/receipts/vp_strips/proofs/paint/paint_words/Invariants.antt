use Rattle.std.proofs.Common.{◌+◌, ◌-◌, ◌&&◌, leb, ltb, get_or, pos}
use Rattle.vp_dots.specs.Dots.{shifted}
use Rattle.vp_dots.specs.Words.{word_dot}
use Rattle.vp_dots.specs.Places.{RowsPainted}
use Rattle.vp_dots.specs.declared.Op.TheVariants.{Black}
use Rattle.vp_receipt_settings.specs.declared.text.TheConstants.{LINE_ROWS}
use Rattle.vp_strips.proofs.paint.paint_words.Given as goal

-- the rows above top + y are done
abbrev pub invariant-loop-y : goal.invariant-loop-y
invariant-loop-y g l = RowsPainted LINE_ROWS Black (λ x k. ltb k (l.fn.top + l.y) && (leb l.fn.top k && shifted (pos l.fn.at) (word_dot (get_or l.fn.words (k - l.fn.top) 0)) x)) l.fn.band l.band
