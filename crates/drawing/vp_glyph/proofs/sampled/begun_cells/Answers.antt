use Rattle.std.proofs.Common.{arith, ℕ, min, ap, ◌≡◌, ◌+◌, ◌*◌, ◌/◌, ◌%◌, ◌<◌}
use Rattle.vp_glyph.proofs.Spread.{quotient}
use Rattle.vp_glyph.proofs.sampled.begun_cells.Goals as goal

all_begun : (dots w cells : ℕ) → 0 < w → dots ≡ w * cells → cells ≡ dots / w + min 1 (dots % w)
all_begun dots w cells p e =
    let q : dots / w ≡ cells = quotient dots w cells p (omega arith) (omega arith) in
    let m : w * (dots / w) ≡ w * cells = ap (λ n. w * n) q in
    omega arith

pub returns-then-dots-w : goal.returns-then-dots-w
returns-then-dots-w c = all_begun c.args.dots c.args.w c.args.cells c.requires.some c.if-dots-w.true
