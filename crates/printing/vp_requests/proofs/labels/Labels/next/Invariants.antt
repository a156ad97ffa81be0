use Rattle.std.proofs.Common.{ℕ, List}
use Rattle.vp_requests.specs.declared.request.Request.{Request}
use Rattle.vp_requests.specs.Requests.{label_requests}
use Rattle.vp_requests.specs.Standing.{LabelsTold}
use Rattle.vp_requests.proofs.Going.{Went}
use Rattle.vp_requests.proofs.labels.Labels.next.Given as goal

abbrev pub invariant-loop-i : goal.invariant-loop-i
invariant-loop-i l = (bytes : List ℕ) (told : List Request) → LabelsTold l.fn.self bytes told → Went (LabelsTold l.self) label_requests bytes told l.input l.i
