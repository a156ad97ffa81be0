use Rattle.std.proofs.Common.{min, ap, ◌∙◌}
use Rattle.vp_receipt_settings.proofs.Gathering.{kept_run}
use Rattle.vp_page.specs.declared.line.TheConstants.{LINE_BYTES}
use Rattle.vp_receipt_settings.proofs.raster.keep_all.Goals as goal

pub returns : goal.returns
returns c = λ came e k. kept_run c.args.row.now came c.args.bytes.now c.copy_from_slice.new.self c.args.got c.min-from.result c.min-n.result _ c.told-row
    (c.min-from.ensures ∙ ap (λ g. min g LINE_BYTES) c.from.ensures) c.min-n.ensures c.copy_from_slice.ensures.after e k
