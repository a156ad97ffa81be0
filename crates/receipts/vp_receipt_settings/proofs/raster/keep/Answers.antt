use Rattle.std.proofs.Common.{ap, ◌∙◌, set, take, min, ◌+◌}
use Rattle.vp_receipt_settings.proofs.Gathering.{kept_more, kept_all}
use Rattle.vp_page.specs.declared.line.TheConstants.{LINE_BYTES}
use Rattle.vp_receipt_settings.proofs.raster.keep.Goals as goal

pub returns-then-i-lt-LINE_BYTES : goal.returns-then-i-lt-LINE_BYTES
returns-then-i-lt-LINE_BYTES c = λ came e k. ap (λ i. take (min (c.args.got + 1) LINE_BYTES) (set c.args.row.now i c.args.byte)) c.from-i.ensures
    ∙ kept_more c.args.row.now came c.args.got c.args.byte c.told-row (rw c.from-i.ensures at c.if-i-lt-LINE_BYTES.true) e k

pub returns-else-i-lt-LINE_BYTES : goal.returns-else-i-lt-LINE_BYTES
returns-else-i-lt-LINE_BYTES c = λ came e k. kept_all c.args.row.now came c.args.got c.args.byte (rw c.from-i.ensures at c.if-i-lt-LINE_BYTES.false) e k
