use Rattle.std.proofs.Common.{true, replicate}
use Rattle.std.proofs.lemmas.Bool.{true≢false}
use Rattle.vp_strips.proofs.SameRows.{white_clear, white_dots}
use Rattle.vp_receipt_settings.specs.declared.text.TheConstants.{LINE_ROWS}
use Rattle.vp_strips.proofs.paint.Bitmap.begin_line.Goals as goal

pub invariant_of-self : goal.invariant_of-self
invariant_of-self g c = (white_clear (replicate LINE_ROWS true) c.clear.new.band c.clear.ensures, λ e. absurd (true≢false e))

pub returns : goal.returns
returns g c = white_dots (replicate LINE_ROWS true) c.clear.new.band c.clear.ensures
