use Rattle.std.proofs.Common.{ℕ, ◌/◌, ◌&&◌, ltb, get_or, arith, ◌∙◌, List, Bool}
use Rattle.std.proofs.lemmas.List.{length-set, length-replicate}
use Rattle.vp_dots.specs.Words.{word_dot}
use Rattle.vp_glyph.proofs.Printed.{words_none, words_more, words_all, word_past}
use Rattle.vp_glyph.proofs.look.doubled_rows.Goals as goal

abbrev wide_dot : List ℕ → ℕ → ℕ → Bool
wide_dot rows x k = ltb x 24 && word_dot (get_or rows k 0) (x / 2)

pub loop-y-init : goal.loop-y-init
loop-y-init c = record {
  count = length-replicate {A = ℕ} 24 0;
  rows_are = words_none 24 (wide_dot c.args.rows.now);
}

pub loop-y-preserved : goal.loop-y-preserved
loop-y-preserved c = record {
  count = length-set c.loop-y.wide c.loop-y.y c.doubled.result ∙ c.loop-y.invariant.count;
  rows_are = words_more c.loop-y.wide (wide_dot c.args.rows.now) c.loop-y.y c.doubled.result (omega (arith, c.loop-y.invariant.count, c.loop-y-test.true)) c.loop-y.invariant.rows_are c.doubled.ensures;
}

pub returns : goal.returns
returns c = λ x y. words_all (wide_dot c.args.rows.now) c.loop-y.wide c.loop-y.y y x (c.loop-y.invariant.rows_are y x) (λ g. word_past c.args.rows.now (ltb x 24) y (x / 2) (omega arith))
