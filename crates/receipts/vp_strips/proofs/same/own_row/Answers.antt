use Rattle.std.proofs.Common.{◌-◌, ◌∙◌, arith}
use Rattle.vp_page.proofs.Shown.{shows_above, shows_own}
use Rattle.vp_strips.proofs.same.own_row.Goals as goal

pub loop-own-preserved : goal.loop-own-preserved
loop-own-preserved c = record {
  up = omega (arith, c.loop-own.invariant.up);
  shows = λ rows inside. grind (arith, inside, c.loop-own.invariant.up, c.loop-own.invariant.shows rows, shows_above c.args.same.now rows (c.loop-own.own - 1));
}

pub returns-else-same-own-clause-shows : goal.returns-else-same-own-clause-shows
returns-else-same-own-clause-shows c = λ rows inside.
    c.loop-own.invariant.shows rows inside ∙ shows_own c.args.same.now rows c.loop-own.own (omega (arith, inside, c.loop-own.invariant.up)) (λ _. c.if-same-own.false)
