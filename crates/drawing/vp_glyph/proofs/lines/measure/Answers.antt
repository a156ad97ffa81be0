use Rattle.std.proofs.Common.{arith, ◌≡◌, ◌+◌, ◌-◌, ap, ◌∙◌, eq-eqb}
use Rattle.std.proofs.lemmas.Bool.{ne_eqb}
use Rattle.vp_glyph.specs.Blocks.{pieces, first, last_blank}
use Rattle.vp_glyph.proofs.Breaking.{last_blank_within}
use Rattle.vp_glyph.proofs.Pieces.{scan_more, behind_all, behind_more, blank_more, cell_is}
use Rattle.vp_glyph.proofs.lines.measure.Goals as goal
use Rattle.vp_glyph.proofs.lines.measure.Goals.{then-b-eq32, else-b-eq32, then-b-eq32-2, else-b-eq32-2}

pub loop-i-preserved : goal.loop-i-preserved
loop-i-preserved c =
    scan_more c.loop-i.i c.in-Some.b c.loop-i.blank c.if-b-eq32.blank _ _ _ c.loop-i.invariant c.in-Some.ensures
    (elim c.if-b-eq32.branch [ then-b-eq32 w ↦ rw (eq-eqb c.in-Some.b 32 w.if-b-eq32.true) w.blank-is | else-b-eq32 w ↦ rw (ne_eqb c.in-Some.b 32 w.if-b-eq32.false) w.blank-is ])

pub returns-in_default-clause-cells : goal.returns-in_default-clause-cells
returns-in_default-clause-cells c = grind (arith, behind_all)

pub returns-in_default-next_cell-clause-cells : goal.returns-in_default-next_cell-clause-cells
returns-in_default-next_cell-clause-cells c = grind (arith, behind_all)

pub returns-clause-blank : goal.returns-clause-blank
returns-clause-blank c =
    let last : c.args.most ≡ c.loop-i.i = omega arith in
    let same : c.loop-i.i ≡ c.args.most + 1 - 1 = omega arith in
    blank_more c.loop-i.i c.in-Some-next_cell.b c.loop-i.blank c.if-b-eq32-2.blank (first (pieces c.args.text.now)) (cell_is c.loop-i.i _ _ _ _ c.loop-i.invariant.behind c.in-Some-next_cell.ensures)
    c.loop-i.invariant.blank_is
    (elim c.if-b-eq32-2.branch [
      | then-b-eq32-2 w ↦ rw (eq-eqb c.in-Some-next_cell.b 32 w.if-b-eq32-2.true) (w.blank-is ∙ last)
      | else-b-eq32-2 w ↦ rw (ne_eqb c.in-Some-next_cell.b 32 w.if-b-eq32-2.false) w.blank-is
    ])
    ∙ ap (λ n. last_blank n (first (pieces c.args.text.now))) same

pub returns-in_default-clause-within : goal.returns-in_default-clause-within
returns-in_default-clause-within c = omega (arith, c.loop-i.invariant.blank_is, last_blank_within (c.loop-i.i - 1) (first (pieces c.args.text.now)))

pub returns-in_default-next_cell-clause-within : goal.returns-in_default-next_cell-clause-within
returns-in_default-next_cell-clause-within c = omega (arith, c.loop-i.invariant.blank_is, last_blank_within (c.loop-i.i - 1) (first (pieces c.args.text.now)))

pub returns-clause-within : goal.returns-clause-within
returns-clause-within c = omega (arith, returns-clause-blank c, last_blank_within (c.args.most + 1 - 1) (first (pieces c.args.text.now)))

pub returns-clause-cells : goal.returns-clause-cells
returns-clause-cells c = omega (arith, behind_more c.loop-i.i _ _ _ _ c.loop-i.invariant.behind c.in-Some-next_cell.ensures)
