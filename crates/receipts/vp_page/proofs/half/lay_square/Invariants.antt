use Rattle.std.proofs.Common.{◌+◌, ◌-◌, ◌*◌, ◌&&◌, leb, ltb, get_or}
use Rattle.vp_dots.specs.Places.{RowsPainted}
use Rattle.vp_dots.specs.Words.{word_dot}
use Rattle.vp_dots.specs.declared.Op.TheVariants.{Black}
use Rattle.vp_page.proofs.half.lay_square.Given as goal

-- the rows above y + k are done
abbrev pub invariant-loop-k : goal.invariant-loop-k
invariant-loop-k g l = RowsPainted g.row.H Black (λ x j. ltb j (l.y + l.k) && (leb l.y j && (leb (8 * l.i) x && word_dot (get_or l.square (j - l.y) 0) (x - 8 * l.i)))) l.fn.band l.band
