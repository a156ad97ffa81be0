use Rattle.std.proofs.Common.{◌≡◌, ℕ, ◌<◌, ◌*◌, false, true, ap, subst, ◌∙◌, arith, List, [], get_or}
use Rattle.vp_dots.specs.Dots.{dot, span}
use Rattle.vp_dots.specs.Places.{RowsPainted}
use Rattle.vp_dots.specs.declared.Op.TheVariants.{White}
use Rattle.vp_page.specs.Areas.{holds}
use Rattle.vp_page.proofs.Whites.{black_rows, now_white, wiped_rows}
use Rattle.vp_page.proofs.half.Half.wipe.Given.{Over}
use Rattle.vp_page.proofs.half.Half.wipe.Goals as goal

module _ (g : Over) (c : goal.After-self-1 g) where
  white : (x y : ℕ) → x < 8 * g.row.B → y < g.row.H → holds c.args.area x y ≡ true → span c.unknown_in.result.from c.unknown_in.result.to y ≡ false → dot (get_or c.self.inside.band y []) x ≡ false
  white x y k h t f = ap (λ (rows : List (List ℕ)). dot (get_or rows y []) x) c.self.view_is ∙ c.unknown_in.ensures.white x y k h t f

  wiped : RowsPainted g.row.H White (holds c.args.area) c.self.inside.band c.whiten.new.band
  wiped = wiped_rows g.row.B g.row.H c.args.area c.unknown_in.result c.self.inside.band _ c.self.invariant.white.rows_are white (rw c.inside-rows.ensures at c.whiten.ensures)

pub invariant_of-self : goal.invariant_of-self
invariant_of-self g c = record {
  words = c.self.invariant.words;
  few = c.self.invariant.few;
  white = now_white g.row.B g.row.H c.args.area _ c.self.inside.band _ c.self.invariant.white.rows_are (omega (arith, c.none-self-inside.ensures.within)) (wiped g c);
}

pub returns-clause-white : goal.returns-clause-white
returns-clause-white g c = subst (λ old. RowsPainted g.row.H White (holds c.args.area) old c.whiten.new.band) c.self.view_is (wiped g c)

pub returns-clause-black : goal.returns-clause-black
returns-clause-black g c = λ x y k h t b. rw c.inside-rows.ensures (black_rows g.row.B g.row.H c.args.area c.unknown_in.result c.self.inside.band c.whiten.new.band c.self.invariant.white.rows_are (white g c) x y k h t
    (ap (λ (rows : List (List ℕ)). dot (get_or rows y []) x) c.self.view_is ∙ b))
