use Rattle.std.proofs.Common.{arith}
use Rattle.std.proofs.lemmas.Grind.{common_steps}
use Rattle.vp_font.specs.Words.{digits}
use Rattle.vp_font.proofs.Numbers.{all_digits}
use Rattle.vp_font.proofs.words.digits.Goals as goal

pub value-size-requires : goal.value-size-requires
value-size-requires c = λ i l. all_digits c.args.text.now c.count_digits-n.result i c.count_digits-n.ensures.value (omega arith) l

pub returns : goal.returns
unfolding digits
returns c = grind (arith, common_steps)
