use Rattle.std.proofs.Common.{◌≡◌, ◌*◌, ◌++◌, take, drop}
use Rattle.vp_engine.specs.Lines.{byte_lines}
use Rattle.vp_engine.proofs.lines.put_byte_lines.Given as goal

abbrev pub invariant-loop-i : goal.invariant-loop-i
invariant-loop-i l = l.output ≡ byte_lines (take l.i l.bytes) ++ drop (8 * l.i) l.fn.output
