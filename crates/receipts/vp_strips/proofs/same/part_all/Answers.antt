use Rattle.std.proofs.Common.{ℕ, ◌∙◌, ap, arith, List}
use Rattle.vp_dots.specs.Dots.{dot}
use Rattle.vp_strips.proofs.SameRows.{none_told, own_shown, told_no_more}
use Rattle.vp_strips.proofs.same.part_all.Goals as goal

pub loop-y-preserved : goal.loop-y-preserved
loop-y-preserved g c = record {
  shows = λ z. c.part_row.ensures.shows z ∙ c.loop-y.invariant.shows z;
  clear = c.part_row.ensures.clear c.args.used c.loop-y.invariant.clear;
  parted = λ z h l. grind (arith, c.part_row.ensures.kept z, c.part_row.ensures.parted, c.loop-y.invariant.parted z);
}

pub returns-clause-clear : goal.returns-clause-clear
returns-clause-clear g c = told_no_more c.args.used _ c.loop-y.band c.loop-y.invariant.clear

pub returns-clause-each : goal.returns-clause-each
returns-clause-each g c = none_told

pub returns-clause-shows : goal.returns-clause-shows
returns-clause-shows g c = λ x y h l. own_shown c.args.used c.loop-y.same c.loop-y.band c.loop-y.invariant.clear x y h l (λ low. c.loop-y.invariant.parted y low (omega (arith, l, low, c.loop-y-test.false))) ∙ ap (λ (r : List ℕ). dot r x) (c.loop-y.invariant.shows y)
