use Rattle.std.proofs.Common.{◌≡◌, ℕ, ◌<◌, ◌+◌, ◌/◌, length, get_or, []}
use Rattle.vp_dots.specs.Dots.{dot}
use Rattle.vp_receipt_settings.specs.Rasters.{row_at, times_across, times_down}
use Rattle.vp_receipt.proofs.raster_page.write_lines.Given as goal
use Rattle.vp_dots.specs.declared.square.TheConstants.{SIDE}
use Rattle.vp_page.specs.declared.line.TheConstants.{LINE_DOTS}

-- the lines above this one are there
abbrev pub invariant-loop-i : goal.invariant-loop-i
invariant-loop-i l = record {
  count : length l.lines ≡ SIDE;
  dots : (k u : ℕ) → k < l.i → u < LINE_DOTS → dot (get_or l.lines k []) u ≡ dot (row_at l.bytes l.wide ((l.from + k) / times_down l.scale)) (u / times_across l.scale);
}
