use Rattle.std.proofs.Common.{◌≡◌, ◌+◌, ◌-◌, arith, sym, ap, ◌∙◌, ℕ, List, min}
use Rattle.vp_glyph.specs.Blocks.{last_blank}
use Rattle.vp_glyph.proofs.Breaking.{block_short, cut_hard, cut_blank, cut_last, paragraph_next}
use Rattle.vp_glyph.proofs.Handed.{size_behind, paragraph_less}
use Rattle.vp_glyph.proofs.Pieces.{some_cell}
use Rattle.vp_glyph.proofs.lines.measured_line.Goals as goal

pub returns-then-cells-most-clause-lines : goal.returns-then-cells-most-clause-lines
returns-then-cells-most-clause-lines c =
    paragraph_next c.args.most c.args.text.now _ _ _ _ (block_short c.args.most c.measure-cells.result.cells c.args.text.now (omega arith) (omega arith)) c.measure-cells.ensures.others c.next_paragraph.ensures

-- the last blank of more than n cells
blank_is : (n t b : ℕ) (cells : List ℕ) → b ≡ last_blank (t - 1) cells → t ≡ n + 1 → last_blank n cells ≡ b
blank_is n t b cells e w = let z : n ≡ t - 1 = omega arith in ap (λ k. last_blank k cells) z ∙ sym e

pub returns-then-blank-eq0-clause-lines : goal.returns-then-blank-eq0-clause-lines
returns-then-blank-eq0-clause-lines c = grind (arith, cut_hard, blank_is, c.requires.some, c.if-blank-eq0.true)

pub returns-in_default-clause-lines : goal.returns-in_default-clause-lines
returns-in_default-clause-lines c =
    paragraph_next c.args.most c.args.text.now _ _ _ _
    (cut_last c.args.most c.args.text.now c.behind_cells-behind.result.now c.requires.some (omega arith) c.measure-cells.result.blank
    (blank_is c.args.most c.measure-cells.result.cells c.measure-cells.result.blank _ c.measure-cells.ensures.blank (omega arith)) (omega arith)
    c.behind_cells-behind.ensures.first c.in_default.ensures)
    c.behind_cells-behind.ensures.others c.next_paragraph-in_default.ensures

pub returns-clause-lines : goal.returns-clause-lines
returns-clause-lines c = grind (arith, cut_blank, blank_is, some_cell, c.requires.some, c.behind_cells-behind.ensures.first)

pub returns-then-cells-most-clause-less : goal.returns-then-cells-most-clause-less
returns-then-cells-most-clause-less c =
    let fits : min c.measure-cells.result.cells c.args.most ≡ c.measure-cells.result.cells = omega arith in
    let size = size_behind c.measure-cells.result.cells c.args.text.now c.measure-cells.result.behind.now (omega arith) (rw fits at c.measure-cells.ensures.first) c.measure-cells.ensures.others in
    paragraph_less c.measure-cells.result.cells c.args.text.now c.measure-cells.result.behind.now _ (omega (arith, size)) c.next_paragraph.ensures

pub returns-then-blank-eq0-clause-less : goal.returns-then-blank-eq0-clause-less
returns-then-blank-eq0-clause-less c = grind (arith, size_behind, c.measure-cells.ensures.first)

pub returns-in_default-clause-less : goal.returns-in_default-clause-less
returns-in_default-clause-less c =
    let size = size_behind (c.measure-cells.result.blank + 1) c.args.text.now c.behind_cells-behind.result.now (omega arith) c.behind_cells-behind.ensures.first c.behind_cells-behind.ensures.others in
    paragraph_less c.measure-cells.result.blank c.args.text.now c.behind_cells-behind.result.now _ (omega (arith, size)) c.next_paragraph-in_default.ensures

pub returns-clause-less : goal.returns-clause-less
returns-clause-less c = grind (arith, size_behind)
