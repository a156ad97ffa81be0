use Rattle.std.proofs.Common.{◌≡◌, ◌≤◌, ◌+◌, ◌*◌, ◌++◌, length, take, drop}
use Rattle.vp_zpl.specs.Lines.{more_joined}
use Rattle.vp_zpl.specs.Shown.{shown_parts}
use Rattle.vp_zpl.proofs.line.joined.Given as goal

abbrev pub invariant-loop-part : goal.invariant-loop-part
invariant-loop-part l = record {
  value : l.line.items ≡ l.initial.line.items ++ more_joined (shown_parts (take l.part-index (drop 1 l.fn.parameters)));
  len : length l.line.items ≤ length l.initial.line.items + 17 * l.part-index;
}
