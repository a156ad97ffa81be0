use Rattle.std.proofs.Common.{◌≡◌, ◌≤◌, ◌-◌, ◌*◌, ◌++◌, length, take, drop}
use Rattle.vp_engine.specs.Lines.{byte_lines_after}
use Rattle.vp_engine.proofs.offset.put_byte_lines_after.Given as goal

abbrev pub invariant-loop-at : goal.invariant-loop-at
invariant-loop-at l = record {
  within : l.at ≤ length l.bytes;
  put : l.put ≡ length (byte_lines_after l.fn.taken (take l.at l.bytes));
  short : l.put ≤ 29 * l.at;
  lines : l.output ≡ byte_lines_after l.fn.taken (take l.at l.bytes) ++ drop l.put l.fn.output;
}

abbrev pub decreases-loop-at : goal.decreases-loop-at
decreases-loop-at l = length l.bytes - l.at
