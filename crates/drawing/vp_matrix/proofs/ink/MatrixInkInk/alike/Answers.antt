use Rattle.std.proofs.Common.{ℕ, ◌+◌, ◌*◌, ◌/◌, ◌<◌, arith}
use Rattle.vp_matrix.proofs.DarkRuns.{ink_alike}
use Rattle.vp_matrix.proofs.ink.MatrixInkInk.alike.Goals as goal

pub returns-clause-same : goal.returns-clause-same
returns-clause-same c = λ (x v : ℕ) least most.
    let s = c.args.self.now in
    let above : v < (c.args.y / s.high + 1) * s.high = omega (arith, most, c.saturating_add.ensures, s.high_some) in
    ink_alike s.symbol.now s.wide s.high x c.args.y v s.high_some least above
