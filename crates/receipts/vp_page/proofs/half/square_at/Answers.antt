use Rattle.std.proofs.Common.{refl, arith, length-set, get_or-set_same, get_or-set_other, ◌∙◌}
use Rattle.vp_page.proofs.half.square_at.Goals as goal

pub loop-k-init : goal.loop-k-init
loop-k-init g c = record { count = refl; dots = λ j x h. absurd (omega arith) }

pub loop-k-preserved : goal.loop-k-preserved
loop-k-preserved g c = record {
  count = length-set c.loop-k.square _ _ ∙ c.loop-k.invariant.count;
  dots = λ j x h l. grind (arith, get_or-set_same, get_or-set_other, c.eight_at.ensures x, c.row.ensures.value, c.loop-k.invariant.dots j x, c.loop-k.invariant.count);
}

pub returns : goal.returns
returns g c = λ k x h l. c.loop-k.invariant.dots k x (omega arith) l
