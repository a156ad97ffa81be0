use Rattle.std.proofs.Common.{◌≡◌, ◌+◌, ◌++◌, length, take}
use Rattle.vp_zpl.specs.Lines.{legible_bytes}
use Rattle.vp_zpl.proofs.line.append.Given as goal

abbrev pub invariant-loop-byte : goal.invariant-loop-byte
invariant-loop-byte l = record {
  value : l.line.items ≡ l.fn.line.items ++ legible_bytes (take l.byte-index l.bytes);
  len : length l.line.items ≡ length l.fn.line.items + l.byte-index;
}
