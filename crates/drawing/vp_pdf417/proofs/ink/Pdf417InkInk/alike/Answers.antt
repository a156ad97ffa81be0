use Rattle.std.proofs.Common.{ℕ, ◌*◌, ◌<◌, arith, subst}
use Rattle.vp_pdf417.specs.declared.size.Size.{Size}
use Rattle.vp_pdf417.specs.Inks.{tall}
use Rattle.vp_pdf417.proofs.InkLines.{ink_alike}
use Rattle.vp_pdf417.proofs.ink.Pdf417InkInk.alike.Goals as goal

pub returns-clause-same : goal.returns-clause-same
returns-clause-same c = λ (x v : ℕ) least most.
    let s = c.args.self.now in
    let inside : c.args.y < tall s.symbol.now s.high = subst (λ (size : Size). c.args.y < s.high * size.rows) c.size.ensures.size (omega arith) in
    ink_alike s.symbol.now s.scale s.high x c.args.y v s.high_some inside least (omega arith)
