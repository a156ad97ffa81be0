use Rattle.std.proofs.Common.{◌≡◌, ◌+◌, ◌-◌, ◌*◌, ◌&&◌, get_or, sym, arith, leb}
use Rattle.vp_dots.specs.Words.{word_dot}
use Rattle.vp_dots.specs.declared.Op.TheVariants.{Black}
use Rattle.vp_dots.proofs.Paints.{painted_same}
use Rattle.vp_dots.proofs.Placing.{rows_more}
use Rattle.vp_page.proofs.PageRows.{row_at, rows_between}
use Rattle.vp_page.proofs.Rows.{rows_same}
use Rattle.vp_page.proofs.half.lay_square.Goals as goal

pub loop-k-preserved : goal.loop-k-preserved
loop-k-preserved g c =
    let y = c.args.y + c.loop-k.k in
    let next : c.args.y + (c.loop-k.k + 1) ≡ y + 1 = omega arith in
    rw next (rows_more _ _ (λ x j. leb c.args.y j && (leb (8 * c.args.i) x && word_dot (get_or c.args.square.now (j - c.args.y) 0) (x - 8 * c.args.i))) y _ _ _
    (omega (arith, c.row_mut.ensures.rows, c.requires.rows)) (omega (arith, c.requires.rows)) c.loop-k.invariant
    (painted_same Black _ _ _ _ (λ d l. row_at c.args.y c.loop-k.k (leb (8 * c.args.i) d) (λ j. word_dot (get_or c.args.square.now j 0) (d - 8 * c.args.i)))
    (rw (sym c.row_mut.ensures.value) c.or_eight.ensures)))

pub returns : goal.returns
returns g c = rows_same g.row.H Black _ _ _ _
    (λ x j h _. rows_between c.args.y c.loop-k.k 64 j (leb (8 * c.args.i) x && word_dot (get_or c.args.square.now (j - c.args.y) 0) (x - 8 * c.args.i)) (omega arith)) c.loop-k.invariant
