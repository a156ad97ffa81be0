use Rattle.std.proofs.Common.{ℕ, ◌+◌, ◌*◌, ◌/◌, ◌&&◌, ltb, get_or, arith, ◌∙◌, List, Bool}
use Rattle.std.proofs.lemmas.List.{length-set, length-replicate}
use Rattle.vp_dots.specs.Words.{word_dot}
use Rattle.vp_glyph.proofs.Magnified.{widened_row}
use Rattle.vp_glyph.proofs.Moved.{moved_left}
use Rattle.vp_glyph.proofs.Printed.{words_none, words_more, words_all, word_past}
use Rattle.vp_glyph.proofs.look.widened_rows.Goals as goal

abbrev wide_dot : List ℕ → ℕ → ℕ → ℕ → ℕ → ℕ → Bool
wide_dot rows first n wm x k = ltb x (n * wm) && word_dot (get_or rows k 0) (first + x / wm)

pub loop-y-init : goal.loop-y-init
loop-y-init g c = record {
  count = length-replicate {A = ℕ} 24 0;
  rows_are = words_none 24 (wide_dot c.args.rows.now c.args.first g.row.N c.args.wm);
}

pub loop-y-preserved : goal.loop-y-preserved
loop-y-preserved g c = record {
  count = length-set c.loop-y.wide c.loop-y.y c.widened.result ∙ c.loop-y.invariant.count;
  rows_are = words_more c.loop-y.wide (wide_dot c.args.rows.now c.args.first g.row.N c.args.wm) c.loop-y.y c.widened.result (omega (arith, c.loop-y.invariant.count, c.loop-y-test.true)) c.loop-y.invariant.rows_are
      (λ x. widened_row (get_or c.args.rows.now c.loop-y.y 0) _ c.widened.result c.args.first g.row.N c.args.wm x c.requires.few c.requires.first (λ d l. moved_left (get_or c.args.rows.now c.loop-y.y 0) c.args.first d l) (c.widened.ensures x));
}

pub returns : goal.returns
returns g c = λ x y. words_all (wide_dot c.args.rows.now c.args.first g.row.N c.args.wm) c.loop-y.wide c.loop-y.y y x (c.loop-y.invariant.rows_are y x) (λ k. word_past c.args.rows.now (ltb x (g.row.N * c.args.wm)) y (c.args.first + x / c.args.wm) (omega arith))
