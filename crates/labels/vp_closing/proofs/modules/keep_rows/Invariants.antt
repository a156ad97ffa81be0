use Rattle.std.proofs.Common.{◌≡◌, ◌++◌}
use Rattle.vp_closing.proofs.Rows.{first_rows}
use Rattle.vp_closing.proofs.modules.keep_rows.Given as goal

-- the rows before this one are stored
abbrev pub invariant-loop-y : goal.invariant-loop-y
invariant-loop-y g l = record {
  stored : l.format.stored ≡ l.fn.format.stored ++ first_rows l.matrix l.y;
  fields : l.format.fields ≡ l.fn.format.fields;
}
