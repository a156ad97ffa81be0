use Rattle.std.proofs.Common.{ℕ, ◌+◌, ◌-◌, ◌*◌, ◌/◌, ◌^◌, ap, ◌∙◌, arith}
use Rattle.vp_png.proofs.CodeTables.{distance_row, distance_rows}
use Rattle.vp_png.proofs.codes.distance_symbol.Goals as goal

pub returns-clause-symbol : goal.returns-clause-symbol
returns-clause-symbol c =
    ap (λ (n : ℕ). 2 * c.args.extra + n / 2 ^ c.args.extra) c.from.ensures
    ∙ ap (λ (n : ℕ). 2 * n + (c.args.distance - 1) / 2 ^ n) c.requires.extra
    ∙ distance_row c.args.distance c.requires.least c.requires.most

pub returns-clause-known : goal.returns-clause-known
returns-clause-known c =
    let same = ap (λ (n : ℕ). 2 * c.args.extra + n / 2 ^ c.args.extra) c.from.ensures
    ∙ ap (λ (n : ℕ). 2 * n + (c.args.distance - 1) / 2 ^ n) c.requires.extra
    ∙ distance_row c.args.distance c.requires.least c.requires.most in
    omega (arith, same, distance_rows c.args.distance c.requires.least c.requires.most)
