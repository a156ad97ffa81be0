use Rattle.std.proofs.Common.{ℕ, ◌-◌, ◌/◌, leb, ltb, arith, get_or}
use Rattle.vp_dots.specs.Words.{word_dot}
use Rattle.vp_strips.proofs.Magnified.{drawn_once, halves}
use Rattle.vp_strips.proofs.OwnRows.{own_over}
use Rattle.vp_strips.proofs.paint.paint_dots.Goals as goal

pub returns-then-wm-eq1 : goal.returns-then-wm-eq1
returns-then-wm-eq1 g c = grind (arith, drawn_once)

pub returns-then-wm-eq2 : goal.returns-then-wm-eq2
returns-then-wm-eq2 g c = grind arith

pub returns-then-wm-le-NARROW : goal.returns-then-wm-le-NARROW
returns-then-wm-le-NARROW g c = grind arith

pub returns : goal.returns
returns g c =
    let q : ℕ → ℕ = λ k. (k - c.args.top) / c.args.times in
    own_over c.args.same.now _ _ _ _ _ _
    (λ x k. halves c.args.at x c.args.wm (word_dot (get_or c.args.words.now (q k) 0)) (leb c.args.top k) (ltb (q k) c.args.high))
    c.paint_part-2.ensures c.paint_part-3.ensures
