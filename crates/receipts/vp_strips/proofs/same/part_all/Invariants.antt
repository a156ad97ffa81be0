use Rattle.std.proofs.Common.{◌≡◌, ℕ, ◌-◌, ◌<◌, ◌≤◌, false, [], get_or}
use Rattle.vp_page.specs.Lines.{shown_lines}
use Rattle.vp_receipt_settings.specs.declared.text.TheConstants.{LINE_ROWS}
use Rattle.vp_strips.specs.LineDots.{IsClear}
use Rattle.vp_strips.proofs.same.part_all.Given as goal

-- the rows in use above this one have their own bytes
abbrev pub invariant-loop-y : goal.invariant-loop-y
invariant-loop-y g l = record {
  shows : (z : ℕ) → get_or (shown_lines l.same l.band) z [] ≡ get_or (shown_lines l.fn.same l.fn.band) z [];
  clear : IsClear l.fn.used l.same l.band;
  parted : (z : ℕ) → LINE_ROWS - l.fn.used ≤ z → z < l.y → get_or l.same z false ≡ false;
}
