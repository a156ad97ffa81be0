use Rattle.std.proofs.Common.{◌≡◌, ℕ, ◌+◌, ◌*◌, ◌<◌, true, false, [], get_or}
use Rattle.vp_page.specs.Lines.{shown_lines}
use Rattle.vp_receipt_settings.specs.declared.text.TheConstants.{LINE_ROWS}
use Rattle.vp_strips.specs.LineDots.{IsClear}
use Rattle.vp_strips.proofs.same.part_rows.Given as goal

-- each row at which one before this one of the font begins has its own bytes
abbrev pub invariant-loop-k : goal.invariant-loop-k
invariant-loop-k g l = record {
  shows : (z : ℕ) → get_or (shown_lines l.same l.band) z [] ≡ get_or (shown_lines l.fn.same l.fn.band) z [];
  parted : (j : ℕ) → j < l.k → l.top + j * l.hm < LINE_ROWS → get_or l.same (l.top + j * l.hm) false ≡ false;
  kept : (y : ℕ) → get_or l.same y false ≡ true → get_or l.fn.same y false ≡ true;
  clear : (used : ℕ) → IsClear used l.fn.same l.fn.band → IsClear used l.same l.band;
}
