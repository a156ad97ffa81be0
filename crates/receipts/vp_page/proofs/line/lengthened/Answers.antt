use Rattle.std.proofs.Common.{ℕ, ◌∙◌, ◌++◌, ap, drop, length, replicate}
use Rattle.vp_dots.specs.Dots.{dot}
use Rattle.vp_page.specs.declared.line.TheConstants.{LINE_BYTES}
use Rattle.vp_page.proofs.Blank.{white_end}
use Rattle.vp_page.proofs.line.lengthened.Goals as goal

pub returns : goal.returns
returns c = λ u. ap (λ xs. dot (xs ++ drop (length c.args.row.now) (replicate {A = ℕ} LINE_BYTES 0)) u) c.copy_from_slice.ensures.after ∙ white_end c.args.row.now LINE_BYTES u
