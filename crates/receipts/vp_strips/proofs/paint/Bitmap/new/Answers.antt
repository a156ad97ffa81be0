use Rattle.std.proofs.Common.{refl, true, replicate}
use Rattle.std.proofs.lemmas.Bool.{true≢false}
use Rattle.vp_strips.proofs.Bitmaps.{blank}
use Rattle.vp_strips.proofs.SameRows.{white_clear, white_dots}
use Rattle.vp_page.specs.declared.line.TheConstants.{LINE_BYTES}
use Rattle.vp_receipt_settings.specs.declared.text.TheConstants.{LINE_ROWS}
use Rattle.vp_strips.proofs.paint.Bitmap.new.Goals as goal

pub invariant_of-result : goal.invariant_of-result
invariant_of-result g c = (white_clear (replicate LINE_ROWS true) c.in_ok-band.band (blank LINE_ROWS LINE_BYTES _ refl refl c.in_ok-band.ensures), λ e. absurd (true≢false e))

pub returns : goal.returns
returns g c = white_dots (replicate LINE_ROWS true) c.in_ok-band.band (blank LINE_ROWS LINE_BYTES _ refl refl c.in_ok-band.ensures)
