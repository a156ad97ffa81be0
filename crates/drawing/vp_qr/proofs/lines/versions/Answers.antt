use Rattle.std.proofs.Common.{ℕ, ◌<◌, ◌≤◌, ◌&&◌, ◌-◌, ◌∙◌, ap, leb, ltb, arith}
use Rattle.std.proofs.lemmas.Bool.{lt-leb, le-leb}
use Rattle.vp_qr.specs.Places.{size}
use Rattle.vp_qr.proofs.Modules.{either, is_set_zero}
use Rattle.vp_qr.proofs.RowParts.{has_columns, first_columns, and_grouped, and_turned}
use Rattle.vp_qr.proofs.lines.versions.Goals as goal

pub returns-then-version-lt7 : goal.returns-then-version-lt7
returns-then-version-lt7 c = λ (j : ℕ) (h : j < 63). rw (lt-leb 7 c.args.version c.if-version-lt7.true) (is_set_zero j)

pub returns : goal.returns
returns c = λ (j : ℕ) (h : j < 63).
    let seven : 7 ≤ c.args.version = omega (arith, c.if-version-lt7.false) in
    let s : ℕ = size c.args.version in
    let above = c.only.ensures j ∙ ap (λ b. ltb c.args.row 6 && b) (c.span-beside.ensures j) ∙ and_grouped (ltb c.args.row 6) (leb (s - 11) j) (ltb j (s - 8)) in
    let down = c.only-2.ensures j ∙ has_columns _ _ _ _ (c.is_dark.ensures ∙ c.span-beside.ensures c.args.row) (c.span.ensures j ∙ first_columns 6 j) ∙ and_turned (leb (s - 11) c.args.row) (ltb c.args.row (s - 8)) (ltb j 6) in
    rw (le-leb 7 c.args.version seven) (either j (omega arith) _ _ _ _ above down)
