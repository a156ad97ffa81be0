use Rattle.std.proofs.Common.{ℕ, List}
use Rattle.vp_requests.specs.declared.request.Request.{Request}
use Rattle.vp_requests.specs.Requests.{receipt_requests}
use Rattle.vp_requests.specs.Standing.{ReceiptsTold, IsIdle}
use Rattle.vp_requests.proofs.Going.{Went}
use Rattle.vp_requests.proofs.receipts.Receipts.next.Given as goal

abbrev pub invariant-loop-i : goal.invariant-loop-i
invariant-loop-i l = record {
  idle : IsIdle l.self;
  went : (bytes : List ℕ) (told : List Request) → ReceiptsTold l.fn.self bytes told → Went (ReceiptsTold l.self) receipt_requests bytes told l.input l.i;
}
