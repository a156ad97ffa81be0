use Rattle.std.proofs.Common.{refl, arith, length-set, get_or-set_same, get_or-set_other}
use Rattle.std.proofs.lemmas.List.{get_or-replicate}
use Rattle.std.proofs.lemmas.Bool.{cases_eq}
use Rattle.vp_field.proofs.plain.of_two_rows.Goals as goal

pub loop-y-preserved : goal.loop-y-preserved
loop-y-preserved c = grind (arith, length-set, get_or-set_other, cases_eq, get_or-set_same)

pub loop-y-init : goal.loop-y-init
loop-y-init c = record {
  count = refl;
  after = omega arith;
  upper = λ k h. get_or-replicate 64 k c.args.upper 0 (omega (arith, h));
  lower = λ k h m. absurd (omega (arith, h, m));
}
