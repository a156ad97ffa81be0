use Rattle.std.proofs.Common.{◌≡◌, ℕ, ◌<◌, ◌≤◌, List, [], get_or, length}
use Rattle.vp_page.specs.Lines.{shown_lines}
use Rattle.vp_strips.proofs.same.own_row.Given as goal

-- the row shows what this one does
abbrev pub invariant-loop-own : goal.invariant-loop-own
invariant-loop-own l = record {
  up : l.own ≤ l.y;
  shows : (rows : List (List ℕ)) → l.y < length rows → get_or (shown_lines l.same rows) l.y [] ≡ get_or (shown_lines l.same rows) l.own [];
}

abbrev pub decreases-loop-own : goal.decreases-loop-own
decreases-loop-own l = l.own
