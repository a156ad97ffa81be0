use Rattle.std.proofs.Common.{◌<◌, sym, length, arith}
use Rattle.std.proofs.lemmas.List.Elements.{All-push}
use Rattle.vp_bars.proofs.SignValues.{values_more, values_stop}
use Rattle.vp_bars.proofs.signs.values_of_signs.Goals as goal

pub returns-in-None-clause-values : goal.returns-in-None-clause-values
returns-in-None-clause-values c = sym (values_stop _ _ _ _ c.loop-c-test.true c.loop-c.invariant.all (sym c.in-None.ensures.value))

pub loop-c-preserved : goal.loop-c-preserved
loop-c-preserved c = record {
  all = rw c.push.ensures.items (values_more _ _ _ _ c.loop-c-test.true c.loop-c.invariant.all _ (sym c.in-Some.ensures.value));
  count = omega (arith, c.push.ensures.len, c.loop-c.invariant.count);
  small = rw c.push.ensures.items (All-push (λ v. v < length c.args.alphabet.now) _ _ c.loop-c.invariant.small c.in-Some.ensures.small);
}
