use Rattle.std.proofs.Common.{◌≡◌, ℕ, ◌+◌, ◌-◌, ◌<◌, ◌≤◌, [], get_or, length}
use Rattle.vp_page.specs.Lines.{shown_lines}
use Rattle.vp_page.proofs.line.run_from.Given as goal

-- the lines before this one show what the first does
abbrev pub invariant-loop-n : goal.invariant-loop-n
invariant-loop-n l = record {
  some : 0 < l.n;
  within : l.from + l.n ≤ length l.lines;
  same : (i : ℕ) → i < l.n → get_or (shown_lines l.same l.lines) (l.from + i) [] ≡ get_or (shown_lines l.same l.lines) l.from [];
}

abbrev pub decreases-loop-n : goal.decreases-loop-n
decreases-loop-n l = length l.lines - l.n
