use Rattle.std.proofs.Common.{ℕ, ◌*◌, ◌<◌, arith, subst}
use Rattle.vp_aztec.specs.Inks.{wide}
use Rattle.vp_aztec.proofs.InkLines.{ink_alike}
use Rattle.vp_aztec.proofs.ink.AztecInkInk.alike.Goals as goal

pub returns-clause-same : goal.returns-clause-same
returns-clause-same c = λ (x v : ℕ) least most.
    let s = c.args.self.now in
    let inside : c.args.y < wide s.symbol.now s.scale = subst (λ (n : ℕ). c.args.y < s.scale * n) c.side.ensures.side (omega arith) in
    ink_alike s.symbol.now s.scale x c.args.y v s.some inside least (omega (arith, s.some))
