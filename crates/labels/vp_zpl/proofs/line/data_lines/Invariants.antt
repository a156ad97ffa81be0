use Rattle.std.proofs.Common.{◌≡◌, ◌*◌, length, take}
use Rattle.vp_zpl.specs.Lines.{lines_of}
use Rattle.vp_zpl.specs.Items.{data_items}
use Rattle.vp_zpl.proofs.line.data_lines.Given as goal

abbrev pub invariant-loop-byte : goal.invariant-loop-byte
invariant-loop-byte l = record {
  value : l.line.items ≡ lines_of (data_items (take l.byte-index l.bytes));
  len : length l.line.items ≡ 8 * l.byte-index;
}
