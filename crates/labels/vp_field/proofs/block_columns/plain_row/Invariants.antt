use Rattle.std.proofs.Common.{◌≡◌, ℕ, ◌+◌, ◌*◌, ◌<◌, ◌≤◌, false, drop, length, get_or}
use Rattle.vp_dots.specs.Dots.{dot}
use Rattle.vp_glyph.specs.Halves.{half_dot}
use Rattle.vp_label_size.specs.declared.TheConstants.{BAND_ROWS}
use Rattle.vp_field.proofs.block_columns.plain_row.Given as goal

-- so many words are there
abbrev pub invariant-loop-next : goal.invariant-loop-next
invariant-loop-next l = record {
  left : l.columns.left.now ≡ drop (64 * l.words) l.fn.columns.left.now;
  enough : 64 * l.words ≤ length l.fn.columns.left.now;
  x : l.columns.x ≡ l.fn.columns.x + 64 * l.words;
  from : l.columns.from ≡ l.fn.columns.from;
  end : l.columns.end ≡ l.fn.columns.end;
  count : length l.row ≡ 160;
  drawn : (i k : ℕ) → i < 64 * l.words → k < BAND_ROWS → dot l.row i ≡ half_dot (get_or l.fn.columns.left.now i 0) k;
  white : (i : ℕ) → 64 * l.words ≤ i → dot l.row i ≡ false;
}

abbrev pub decreases-loop-next : goal.decreases-loop-next
decreases-loop-next l = length l.columns.left.now
