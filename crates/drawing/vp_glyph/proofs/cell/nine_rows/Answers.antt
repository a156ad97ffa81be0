use Rattle.std.proofs.Common.{ℕ, ◌*◌, ◌/◌, ◌&&◌, ltb, get_or, refl, arith, ap, ◌∙◌, List, Bool}
use Rattle.std.proofs.lemmas.Bool.{lt-ltb}
use Rattle.std.proofs.lemmas.List.{length-set, length-replicate}
use Rattle.vp_dots.specs.Words.{word_dot}
use Rattle.vp_glyph.proofs.Printed.{words_none, words_more}
use Rattle.vp_glyph.proofs.cell.nine_rows.Goals as goal

-- nine dots of a row out of its twelve
abbrev nine_dot : List ℕ → ℕ → ℕ → Bool
nine_dot rows x k = ltb x 9 && word_dot (get_or rows (k * 24 / 17) 0) (x * 12 / 9)

pub loop-y-init : goal.loop-y-init
loop-y-init c = record {
  count = length-replicate {A = ℕ} 17 0;
  rows_are = words_none 17 (nine_dot c.args.rows.now);
}

pub loop-y-preserved : goal.loop-y-preserved
loop-y-preserved c = record {
  count = length-set c.loop-y.nine c.loop-y.y c.nine_of.result ∙ c.loop-y.invariant.count;
  rows_are = words_more c.loop-y.nine (nine_dot c.args.rows.now) c.loop-y.y c.nine_of.result (omega (arith, c.loop-y.invariant.count, c.loop-y-test.true)) c.loop-y.invariant.rows_are
      (λ x. c.nine_of.ensures x ∙ ap (λ w. ltb x 9 && word_dot w (x * 12 / 9)) c.row_at.ensures);
}

pub returns : goal.returns
returns c x y l = c.loop-y.invariant.rows_are y x ∙ rw (lt-ltb y c.loop-y.y (omega arith)) refl
