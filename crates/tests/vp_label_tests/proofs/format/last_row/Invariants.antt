use Rattle.vp_format.specs.declared.rows.Coding.TheVariants.{RunLength}
use Rattle.vp_format.specs.Cursors.{IsMark}
use Rattle.vp_label_tests.proofs.format.last_row.Given as goal

-- the mark is one of a cursor over these codes
abbrev pub invariant-loop-y : goal.invariant-loop-y
invariant-loop-y l = IsMark (record { coding = RunLength; codes = l.codes; row_bytes = 1; rows = 34 }) l.mark
