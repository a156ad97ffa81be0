use Rattle.std.proofs.Common.{◌≡◌, ◌+◌, drop}
use Rattle.std.specs.List.{prefix_len}
use Rattle.vp_zpl.specs.Runs.{is_text}
use Rattle.vp_zpl.proofs.front.text_front.Given as goal

abbrev pub invariant-loop-i : goal.invariant-loop-i
invariant-loop-i l = prefix_len (is_text l.indicator) l.input ≡ l.i + prefix_len (is_text l.indicator) (drop l.i l.input)
