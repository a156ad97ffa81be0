use Rattle.std.proofs.Common.{◌≡◌, [], ℕ, ◌<◌, take, get_or, length}
use Rattle.vp_reed_solomon.specs.declared.field.Field.TheVariants.{Gf256}
use Rattle.vp_reed_solomon.specs.Fields.{AreElements}
use Rattle.vp_data_matrix.specs.Blocks.{block_check}
use Rattle.vp_data_matrix.proofs.block.checks.Given as goal

abbrev pub invariant-loop-b : goal.invariant-loop-b
invariant-loop-b l = record {
  long : length l.rows ≡ 10;
  made : (j : ℕ) → j < l.b → take l.size.check (get_or l.rows j []) ≡ block_check l.size l.words j;
  elements : (j : ℕ) → j < l.b → AreElements Gf256 (take l.size.check (get_or l.rows j []));
}
