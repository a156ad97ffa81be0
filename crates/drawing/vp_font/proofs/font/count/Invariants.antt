use Rattle.std.proofs.Common.{◌≡◌, true, ◌+◌, ◌≤◌, length}
use Rattle.vp_font.specs.Words.{lines}
use Rattle.vp_font.specs.Steps.{start}
use Rattle.vp_font.specs.Orders.{ordered}
use Rattle.vp_font.specs.Fonts.{count_from}
use Rattle.vp_font.proofs.font.count.Given as goal

-- with the lines that are left the counts are those of all; each line has a byte at least, and each byte of a
-- row two
abbrev pub invariant-loop-line : goal.invariant-loop-line
invariant-loop-line l = record {
  counts : count_from l.number l.state l.counts.letters l.counts.bytes (lines l.rest) ≡ count_from 1 start 0 0 (lines l.src);
  ordered : ordered l.state ≡ true;
  numbered : l.number + length l.rest ≤ length l.src + 1;
  few_letters : l.counts.letters + length l.rest ≤ length l.src;
  few_bytes : l.counts.bytes + length l.rest ≤ length l.src;
}

abbrev pub decreases-loop-line : goal.decreases-loop-line
decreases-loop-line l = length l.rest
