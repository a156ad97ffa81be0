use Rattle.std.proofs.lemmas.List.{append-nil}
use Rattle.vp_receipt.specs.Strips.{printed}
use Rattle.std.proofs.Common.{arith, ◌∙◌, sym}
use Rattle.vp_receipt_settings.proofs.Runs.{stops_stay, data_stay}
use Rattle.vp_receipt.proofs.PageLines.{mode_is}
use Rattle.vp_receipt.proofs.PageRows.{gathers_still}
use Rattle.vp_receipt.proofs.PlainRows.{told, no_page}
use Rattle.vp_receipt.proofs.Showing.{shows_nothing}
use Rattle.vp_receipt.proofs.receipt.Receipt.put_rows.Goals as goal

pub returns-then-is_plain-clause-stands : goal.returns-then-is_plain-clause-stands
returns-then-is_plain-clause-stands g c =
    grind (arith, c.put_plain.ensures.on_paper, c.requires.pending, told, c.is_plain.ensures, c.if-is_plain.true, stops_stay, data_stay, gathers_still, no_page, mode_is, shows_nothing)

pub returns-then-is_plain-clause-count : goal.returns-then-is_plain-clause-count
returns-then-is_plain-clause-count g c = grind (arith, c.put_plain.ensures.count, c.is_plain.ensures, c.if-is_plain.true)

pub returns-then-is_plain-clause-prints : goal.returns-then-is_plain-clause-prints
returns-then-is_plain-clause-prints g c = grind (arith, c.put_plain.ensures.on_paper)

pub put_plain-requires-clause-few : goal.put_plain-requires-clause-few
put_plain-requires-clause-few g c = grind (arith, c.is_plain.ensures, c.if-is_plain.true, c.requires.few)

pub apply_raster-requires-clause-few : goal.apply_raster-requires-clause-few
apply_raster-requires-clause-few g c = grind (arith, c.is_plain.ensures, c.if-is_plain.false, c.requires.few)

pub returns-clause-count : goal.returns-clause-count
returns-clause-count g c = grind (arith, c.is_plain.ensures, c.if-is_plain.false)

pub returns-clause-prints : goal.returns-clause-prints
returns-clause-prints g c = λ setup before h. c.apply_raster.ensures.prints setup before h ∙ sym (append-nil (printed setup before))
