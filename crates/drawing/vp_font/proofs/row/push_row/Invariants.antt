use Rattle.std.proofs.Common.{◌≡◌, ◌++◌, vec_capacity}
use Rattle.vp_font.specs.Rows.{row_of}
use Rattle.vp_font.proofs.row.push_row.Given as goal

-- the bytes before i are appended
abbrev pub invariant-loop-i : goal.invariant-loop-i
invariant-loop-i g l = record {
  items : l.raster.items ≡ l.fn.raster.items ++ row_of l.i l.line;
  room : vec_capacity l.raster ≡ vec_capacity l.fn.raster;
}
