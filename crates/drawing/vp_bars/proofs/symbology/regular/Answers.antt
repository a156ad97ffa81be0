use Rattle.std.proofs.Common.{arith, sym, ◌∙◌}
use Rattle.std.proofs.lemmas.List.Elements.{All-more}
use Rattle.vp_bars.specs.Regular.{IsRegular}
use Rattle.vp_bars.proofs.symbology.regular.Goals as goal

pub returns-then-not-is_regular : goal.returns-then-not-is_regular
returns-then-not-is_regular c = record { within = omega arith; each = c.loop-i.invariant }

pub loop-i-preserved : goal.loop-i-preserved
loop-i-preserved c = All-more (IsRegular c.args.symbology) c.args.values.now c.loop-i.i 0 c.loop-i-test.true c.loop-i.invariant (sym c.is_regular.ensures ∙ c.if-not-is_regular.false)
