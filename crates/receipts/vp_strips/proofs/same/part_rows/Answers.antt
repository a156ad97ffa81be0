use Rattle.std.proofs.Common.{◌+◌, ◌*◌, ◌∙◌, arith}
use Rattle.vp_strips.proofs.same.part_rows.Goals as goal

pub loop-k-preserved : goal.loop-k-preserved
loop-k-preserved g c = record {
  shows = λ z. c.part_row.ensures.shows z ∙ c.loop-k.invariant.shows z;
  parted = λ j h l. grind (arith, c.loop-k.invariant.parted j, c.part_row.ensures.kept (c.args.top + j * c.from-hm.result), c.part_row.ensures.parted);
  kept = λ y e. c.loop-k.invariant.kept y (c.part_row.ensures.kept y e);
  clear = λ used is. c.part_row.ensures.clear used (c.loop-k.invariant.clear used is);
}

pub returns-clause-clear : goal.returns-clause-clear
returns-clause-clear g c = λ used is. c.part_row-2.ensures.clear used (c.loop-k.invariant.clear used is)

pub returns-clause-below : goal.returns-clause-below
returns-clause-below g c = λ y low h e. grind (arith, c.part_row-2.ensures.kept y, c.loop-k.invariant.parted 0, c.requires.room, c.loop-k-test.false)
