use Rattle.std.proofs.Common.{◌≡◌, ◌≤◌, ◌++◌, length, drop}
use Rattle.vp_bars.specs.Code93.{without_checks, ascii_from}
use Rattle.vp_bars.proofs.code_93.shown_ascii.Given as goal

-- the text so far, and that of the values that are left
abbrev pub invariant-loop-v : goal.invariant-loop-v
invariant-loop-v l = record {
  all : ascii_from 0 (without_checks l.values) ≡ l.text.items ++ ascii_from l.shift (drop l.v-index (without_checks l.values));
  few : length l.text.items ≤ l.v-index;
}
