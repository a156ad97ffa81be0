use Rattle.std.proofs.Common.{◌≡◌, ◌*◌, ◌≤◌, ◌++◌, length, drop}
use Rattle.vp_bars.specs.Code93.{spelled}
use Rattle.vp_bars.proofs.code_93.spelled.Given as goal

-- the signs so far, and those of the bytes that are left
abbrev pub invariant-loop-c : goal.invariant-loop-c
invariant-loop-c l = record { all : spelled l.src ≡ l.signs.items ++ spelled (drop l.c-index l.src); few : length l.signs.items ≤ 2 * l.c-index }
