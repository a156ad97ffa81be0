use Rattle.std.proofs.Common.{inl, inr, ◌≡◌, ◌+◌, ◌-◌, rules, arith, ap, ◌∙◌, w64, pos}
use Rattle.vp_label_size.specs.declared.TheConstants.{BAND_ROWS}
use Rattle.vp_field.specs.Axes.{dot_on}
use mir.Val.{SFits}
use Rattle.std.proofs.lemmas.Int.{ints, to_z-of_z}
use Rattle.std.proofs.lemmas.Bool.{cases_lt}
use Rattle.vp_field.proofs.laid.Laid.first_line.Goals as goal

pub returns-in-Along-clause-along : goal.returns-in-Along-clause-along
returns-in-Along-clause-along c o k v l m e =
    let line = c.first_line in
    let fits : SFits w64 line.result = search (rules, line.ensures.low, line.ensures.high) in
    omega (arith, c.clamped.ensures.above v (rw (to_z-of_z w64 line.result fits) (line.ensures.from k v l e)))

pub returns-in-Across-clause-across : goal.returns-in-Across-clause-across
returns-in-Across-clause-across c o x v l m e =
    let line = c.first_line-in-Across in
    let fits : SFits w64 line.result = search (rules, line.ensures.low, line.ensures.high) in
    let place : 0 + x ≡ x = omega arith in
    c.clamped-in-Across.ensures.above v (rw (to_z-of_z w64 line.result fits) (line.ensures.from x v l (ap (λ n. dot_on c.args.self.columns (pos n)) place ∙ e)))

pub returns-in-Across-clause-within : goal.returns-in-Across-clause-within
returns-in-Across-clause-within c o x v l m e =
    let line = c.first_line-in-Across in
    let fits : SFits w64 line.result = search (rules, line.ensures.low, line.ensures.high) in
    let place : 0 + x ≡ x = omega arith in
    let before = line.ensures.to x v l (ap (λ n. dot_on c.args.self.columns (pos n)) place ∙ e) in
    elim (cases_lt v c.args.columns) [
      | inl k ↦ omega arith
      | inr k ↦ (let n = c.clamped-in-Across.ensures.below (v - c.args.columns) (omega arith) (rw (to_z-of_z w64 line.result fits) (omega (arith, ints, before))) in omega arith)
    ]

pub returns-in-Along-clause-near : goal.returns-in-Along-clause-near
returns-in-Along-clause-near c o k v l m e =
    let line = c.first_line in
    let fits : SFits w64 line.result = search (rules, line.ensures.low, line.ensures.high) in
    let before = line.ensures.to k v l e in
    elim (cases_lt v BAND_ROWS) [
      | inl k ↦ omega arith
      | inr k ↦ (let n = c.clamped.ensures.below (v - BAND_ROWS) (omega arith) (rw (to_z-of_z w64 line.result fits) (omega (arith, ints, before))) in omega arith)
    ]
