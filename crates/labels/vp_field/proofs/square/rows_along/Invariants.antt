use Rattle.std.proofs.Common.{◌≡◌, ℕ, ◌+◌, ◌<◌, length, get_or}
use Rattle.vp_label_size.specs.declared.TheConstants.{BAND_ROWS}
use Rattle.vp_field.specs.Axes.{read_at}
use Rattle.vp_field.proofs.square.rows_along.Given as goal

-- the rows before k are read
abbrev pub invariant-loop-k : goal.invariant-loop-k
invariant-loop-k l = record {
  count : length l.along ≡ BAND_ROWS;
  read : (j : ℕ) → j < l.k → get_or l.along j 0 ≡ get_or l.square (l.from + read_at l.axis BAND_ROWS j) 0;
}
