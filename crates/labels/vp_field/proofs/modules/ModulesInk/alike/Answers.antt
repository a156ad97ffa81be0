use Rattle.std.proofs.Common.{ℕ, ◌+◌, ◌*◌, ◌/◌, ◌<◌, ◌≤◌, arith}
use Rattle.vp_field.proofs.DarkRuns.{ink_alike}
use Rattle.vp_field.proofs.modules.ModulesInk.alike.Goals as goal

pub returns-clause-same : goal.returns-clause-same
returns-clause-same c = λ (x v : ℕ) least most.
    let s = c.args.self.now in
    let same = c.from-high.ensures in
    let low : (c.args.y / s.symbol.high) * s.symbol.high ≤ v = rw same at least in
    let end = rw same at c.saturating_add.ensures in
    let above : v < (c.args.y / s.symbol.high + 1) * s.symbol.high = omega (arith, most, end, s.high_some) in
    ink_alike s.symbol s.bytes.now x c.args.y v s.high_some low above
