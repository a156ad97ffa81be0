use Rattle.std.proofs.Common.{ℕ, arith}
use Rattle.vp_page.specs.declared.page.TheConstants.{PAPER_BYTES}
use Rattle.vp_strips.specs.Jobs.{page_dot_of}
use Rattle.vp_strips.proofs.ManyRows.{whole_row}
use Rattle.vp_strips.proofs.Rows.{take_row}
use Rattle.vp_strips.proofs.many_rows.page_row.Goals as goal

pub returns : goal.returns
returns g c =
    let dots = λ (x : ℕ). page_dot_of c.args.page.now.rows x c.args.y in
    rw c.row_bytes.ensures (take_row c.args.paper dots c.row-row.result.now
    (c.dots_decide.ensures.row PAPER_BYTES dots c.row-row.ensures.len (λ d h. whole_row _ _ d c.args.y c.row-row.ensures.value (omega arith) c.requires)))
