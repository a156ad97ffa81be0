use Rattle.std.proofs.Common.{◌≡◌, ℕ, ◌+◌, ◌-◌, ◌*◌, ◌/◌, ◌^◌, ap, ◌∙◌, arith}
use Rattle.vp_png.specs.Codes.{row_of, lengths}
use Rattle.vp_png.proofs.CodeTables.{length_row, length_rows, longest_row}
use Rattle.vp_png.proofs.codes.length_symbol.Goals as goal

pub returns-then-long-eq258-clause-symbol : goal.returns-then-long-eq258-clause-symbol
returns-then-long-eq258-clause-symbol c =
    let at : c.args.long ≡ 258 = omega arith in
    omega (arith, longest_row, ap (row_of lengths) at)

pub returns-clause-symbol : goal.returns-clause-symbol
returns-clause-symbol c =
    let row = length_row c.args.long c.requires.least (omega arith) in
    ap (λ (n : ℕ). 257 + n) (ap (λ (n : ℕ). 4 * c.args.extra + n / 2 ^ c.args.extra) c.from.ensures
    ∙ ap (λ (n : ℕ). 4 * n + (c.args.long - 3) / 2 ^ n) c.requires.extra ∙ row)

pub returns-clause-known : goal.returns-clause-known
returns-clause-known c =
    let row = length_row c.args.long c.requires.least (omega arith) in
    let same = ap (λ (n : ℕ). 257 + n) (ap (λ (n : ℕ). 4 * c.args.extra + n / 2 ^ c.args.extra) c.from.ensures
    ∙ ap (λ (n : ℕ). 4 * n + (c.args.long - 3) / 2 ^ n) c.requires.extra ∙ row) in
    omega (arith, same, length_rows c.args.long c.requires.least (omega arith))
