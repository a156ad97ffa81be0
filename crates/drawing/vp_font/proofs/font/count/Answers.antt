use Rattle.std.proofs.Common.{arith, sym, ◌∙◌}
use Rattle.vp_font.proofs.Reading.{count_err, count_end, count_more, count_none, letters_few, bytes_few}
use Rattle.vp_font.proofs.font.count.Goals as goal

pub returns-in-Err : goal.returns-in-Err
returns-in-Err c = sym (count_err _ _ _ _ _ c.in-Some.ensures.lines _ _ _ (sym c.in-Err.ensures.value)) ∙ c.loop-line.invariant.counts

pub returns-then-ends : goal.returns-then-ends
returns-then-ends c = sym (count_end _ _ _ _ _ c.in-Some.ensures.lines _ _ _ _ (sym c.in-Ok.ensures.value) (sym c.if-ends.ensures)) ∙ c.loop-line.invariant.counts

pub loop-line-preserved : goal.loop-line-preserved
loop-line-preserved c = record {
  counts = rw (c.counted-counts.ensures.letters, c.counted-counts.ensures.bytes)
      (sym (count_more _ _ _ _ _ c.in-Some.ensures.lines _ _ _ _ (sym c.in-Ok.ensures.value) (sym c.if-ends.ensures)) ∙ c.loop-line.invariant.counts);
  ordered = c.in-Ok.ensures.ordered;
  numbered = omega (arith, c.loop-line.invariant.numbered, c.in-Some.ensures.shorter);
  few_letters = omega (arith, c.counted-counts.ensures.letters, letters_few c.in-Ok.told.1 c.loop-line.counts.letters, c.loop-line.invariant.few_letters, c.in-Some.ensures.shorter);
  few_bytes = omega (arith, c.counted-counts.ensures.bytes, bytes_few c.in-Ok.told.1 c.in-Some.line.now c.loop-line.counts.bytes c.in-Ok.ensures.row, c.loop-line.invariant.few_bytes, c.in-Some.ensures.less);
}

pub returns : goal.returns
returns c = sym (count_none _ _ _ _ _ c.in_default.ensures.lines) ∙ c.loop-line.invariant.counts
