use Rattle.std.proofs.Common.{◌≡◌, ◌≤◌, ◌*◌, flat_map, length, take}
use Rattle.vp_esc.specs.declared.item.EscItem.TheVariants.{RasterByte}
use Rattle.vp_esc.specs.Lines.{line_of}
use Rattle.vp_engine.specs.Lines.{listed_line}
use Rattle.vp_engine.proofs.lines.append_bytes.Given as goal

abbrev pub invariant-loop-byte : goal.invariant-loop-byte
invariant-loop-byte l = record {
  lines : l.text.items ≡ flat_map (λ b. listed_line l.place (line_of (RasterByte b))) (take l.byte-index l.bytes);
  room : length l.text.items ≤ 29 * l.byte-index;
}
