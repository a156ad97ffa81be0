use Rattle.std.proofs.Common.{◌≡◌}
use Rattle.vp_format.specs.declared.rows.Coding.TheVariants.{RunLength}
use Rattle.vp_label_tests.proofs.format.places.reads_by_places.Given as goal

-- the cursor reads these codes
abbrev pub invariant-loop-y : goal.invariant-loop-y
invariant-loop-y l = l.cursor.picture
    ≡ record { coding = RunLength; codes = l.codes; row_bytes = l.row_bytes; rows = 3 }
