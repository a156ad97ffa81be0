use Rattle.vp_font.proofs.Numbers.{value_more}
use Rattle.vp_font.proofs.words.value.Goals as goal

pub loop-d-preserved : goal.loop-d-preserved
loop-d-preserved c =
    value_more c.args.digits.now c.loop-d.d-index c.loop-d.value c.saturating_mul.result c.from.result c.saturating_add-value.result
    c.loop-d-test.true (c.requires c.loop-d.d-index c.loop-d-test.true) c.loop-d.invariant c.saturating_mul.ensures c.from.ensures c.saturating_add-value.ensures
