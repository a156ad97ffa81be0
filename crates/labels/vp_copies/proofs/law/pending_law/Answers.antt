use Rattle.vp_copies.proofs.Places.{some_pending, none_pending}
use Rattle.vp_copies.proofs.law.pending_law.Goals as goal

pub returns : goal.returns
returns c = λ i p high is. (
  λ some. some_pending i high p.copies (record { line = p.line; byte = p.byte }) some (record { line = is.line; byte = is.byte }),
  λ left. none_pending i high p.copies (record { line = p.line; byte = p.byte }) left,
)
