use Rattle.std.proofs.Common.{◌≡◌, ◌*◌, ◌≤◌, ◌++◌, length, drop}
use Rattle.vp_bars.specs.Texts.{shown_from}
use Rattle.vp_bars.proofs.text.shown_in.Given as goal

-- the text so far, and that of the values that are left
abbrev pub invariant-loop-v : goal.invariant-loop-v
invariant-loop-v l = record {
  all : shown_from l.fn.start l.fn.start l.values ≡ l.text.items ++ shown_from l.set l.now (drop l.v-index l.values);
  few : length l.text.items ≤ 2 * l.v-index;
}
