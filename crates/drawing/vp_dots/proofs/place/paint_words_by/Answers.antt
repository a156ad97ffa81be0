use Rattle.std.proofs.Common.{◌≡◌, ℕ, ℤ, ◌+◌, ◌-◌, ◌&&◌, w64, to_z, of_z, sym, ap, arith, List, leb, get_or}
use Rattle.std.proofs.lemmas.Bool.{le-leb}
use Rattle.std.proofs.lemmas.Bool.Decides.{nat_tests}
use Rattle.std.proofs.lemmas.Int.{to_z-of_z}
use Rattle.vp_dots.specs.Dots.{shifted}
use Rattle.vp_dots.specs.Words.{word_dot}
use Rattle.vp_dots.proofs.Heights.{rows_next, rows_same}
use Rattle.vp_dots.proofs.Paints.{painted_same}
use Rattle.vp_dots.proofs.place.paint_words_by.Goals as goal

-- word i is the one of the row i below `top`
word_below : (words : List ℕ) (left : ℤ) (top i d : ℕ) → shifted left (word_dot (get_or words i 0)) d ≡ (leb top (top + i) && shifted left (word_dot (get_or words (top + i - top) 0)) d)
word_below words left top i d =
    let e : i ≡ top + i - top = omega arith in
    rw (le-leb top (top + i) (omega arith)) (ap (λ n. shifted left (word_dot (get_or words n 0)) d) e)

pub loop-i-preserved : goal.loop-i-preserved
loop-i-preserved g c =
    let left = to_z w64 (of_z w64 c.args.left) in
    let words = c.args.words.now in
    rows_next g.row.H _ (λ x k. leb c.args.top k && shifted left (word_dot (get_or words (k - c.args.top) 0)) x) c.args.top c.loop-i.i _ _ _ (omega (arith, c.row_mut.ensures.rows)) (omega arith) c.loop-i.invariant
    (rw (sym c.row_mut.ensures.value) (painted_same _ _ _ _ _ (λ d l. word_below words left c.args.top c.loop-i.i d) c.paint_word.ensures))

pub returns : goal.returns
returns g c = rw (sym (to_z-of_z w64 c.args.left c.ranges.left)) (rows_same g.row.H _ _ _ _ _ (λ x k l. grind (arith, nat_tests)) c.loop-i.invariant)
