use Rattle.std.proofs.Common.{◌≡◌, ◌+◌, ◌*◌, ◌++◌, take, drop}
use Rattle.vp_engine.specs.Lines.{lines_behind}
use Rattle.vp_engine.proofs.offset.put_lines_behind.Given as goal

abbrev pub invariant-loop-i : goal.invariant-loop-i
invariant-loop-i l = l.output ≡ lines_behind (take l.fn.n l.fn.digits) l.fn.last (take l.i l.bytes) ++ drop ((l.fn.n + 10) * l.i) l.fn.output
