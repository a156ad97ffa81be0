use Rattle.std.proofs.Common.{◌≡◌, ℕ, ◌+◌, ◌-◌, ◌<◌, ◌≤◌, [], get_or, length}
use Rattle.vp_page.proofs.line.same_lines.Given as goal

-- the lines before this one are as the first
abbrev pub invariant-loop-n : goal.invariant-loop-n
invariant-loop-n l = record {
  some : 0 < l.n;
  within : l.from + l.n ≤ length l.lines;
  same : (i : ℕ) → i < l.n → get_or l.lines (l.from + i) [] ≡ get_or l.lines l.from [];
}

abbrev pub decreases-loop-n : goal.decreases-loop-n
decreases-loop-n l = length l.lines - l.n
