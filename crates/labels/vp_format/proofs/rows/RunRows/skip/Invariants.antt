use Rattle.vp_format.proofs.Skipped.{OnWay}
use Rattle.vp_format.proofs.rows.RunRows.skip.Given as goal

-- as many readings as are left would answer the same, and bring the cursor to the same row
abbrev pub invariant-loop-left : goal.invariant-loop-left
invariant-loop-left l = OnWay l.fn.self l.self l.rows l.left

abbrev pub decreases-loop-left : goal.decreases-loop-left
decreases-loop-left l = l.left
