use Rattle.std.proofs.Common.{◌≡◌, ℕ, ◌<◌, ◌≤◌, false, [], get_or, length}
use Rattle.vp_dots.specs.Dots.{dot}
use Rattle.vp_page.specs.declared.line.TheConstants.{LINE_BYTES, LINE_DOTS}
use Rattle.vp_receipt_settings.specs.declared.text.TheConstants.{LINE_ROWS}
use Rattle.vp_strips.proofs.same.clear.Given as goal

-- the rows above this one are white
abbrev pub invariant-loop-y : goal.invariant-loop-y
invariant-loop-y g l = record {
  rows : (z : ℕ) → z < LINE_ROWS → length (get_or l.band z []) ≡ LINE_BYTES;
  white : (x z : ℕ) → x < LINE_DOTS → z < l.y → dot (get_or l.band z []) x ≡ false;
  rest : (z : ℕ) → l.y ≤ z → get_or l.band z [] ≡ get_or l.fn.band z [];
}
