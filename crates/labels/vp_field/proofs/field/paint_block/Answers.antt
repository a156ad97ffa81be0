use Rattle.std.proofs.Common.{◌≡◌, ℕ, ◌+◌, ◌^◌, ◌<◌, ◌≤◌, ◌∙◌, List, length, drop, ap, sym, arith, pos}
use Rattle.std.proofs.lemmas.List.{length-take}
use Rattle.vp_format.specs.declared.field.Content.TheVariants as contents
use Rattle.vp_format.specs.declared.field.TextBlock.{TextBlock}
use Rattle.vp_glyph.specs.Blocks.{block_height, block_width, block_dot}
use Rattle.vp_glyph.specs.Layouts.{layout_of}
use Rattle.vp_field.specs.Axes.{laid, lines_of, dot_on}
use Rattle.vp_field.specs.Counts.{block_columns, block_least}
use Rattle.vp_field.specs.Contents.{bytes_of, block_layout, content_height, content_dot, most_lines, IsTextBlock}
use Rattle.vp_field.specs.Drawn.{part}
use Rattle.vp_field.specs.Standing.{standing}
use Rattle.vp_field.specs.Views.{seen_x, seen_y, columns_of}
use Rattle.vp_field.specs.declared.axis.Lines.TheVariants.{Along, Across}
use Rattle.vp_field.proofs.Counts.{along_cost, across_cost}
use Rattle.vp_field.proofs.Passing.{passed_beside}
use Rattle.vp_field.proofs.OnLabel.{shown_same}
use Rattle.vp_field.proofs.field.paint_block.Goals as goal

-- the text of a block is among its bytes, and so short
text_less : (stored : List ℕ) (b : TextBlock) (text : List ℕ) → text ≡ bytes_of stored b.text.bytes → length text ≤ b.text.bytes.len
text_less stored b text e = omega (arith, ap length e, length-take b.text.bytes.len (drop b.text.bytes.start stored))

text_few : (stored : List ℕ) (b : TextBlock) (text : List ℕ) → IsTextBlock stored b → text ≡ bytes_of stored b.text.bytes → length text < 2 ^ 32
text_few stored b text kept e = omega (arith, text_less stored b text e, kept.text.bytes.few)

pub returns-in-Along-clause-dots : goal.returns-in-Along-clause-dots
returns-in-Along-clause-dots g c =
    let b = c.block_of-ink.ensures in
    let r = c.from_row-block.ensures in
    rw (r.sheet ∙ b.sheet, r.text ∙ b.text, r.w ∙ b.w, r.h ∙ b.h, r.wide ∙ b.wide, r.rows ∙ b.rows, r.pitch ∙ b.pitch, r.alignment ∙ b.alignment) at c.paint_block_along.ensures.dots

pub returns-in-Across-clause-dots : goal.returns-in-Across-clause-dots
returns-in-Across-clause-dots g c =
    let b = c.block_of-ink.ensures in
    let r = c.from_row-block.ensures in
    let k = c.block_of-ink.result in
    let on = c.args.on in
    let l = c.laid-laid.result in
    let ink = λ (u v : ℕ). block_dot (layout_of k) k.text.now u v in
    let dots = rw (c.columns-columns.ensures, r.sheet, r.text, r.w, r.h, r.wide, r.rows, r.pitch, r.alignment) at c.paint_block_across.ensures.dots in
    let same = shown_same (columns_of on.view) on.op (λ x y. laid Across l.columns l.rows ink (pos x) (pos (c.args.first + y)))
    (λ x y. standing on.left on.top on.orientation (block_width k.wide k.w) (block_height k.h k.rows k.pitch) ink (seen_x on.view (pos x)) (seen_y on.view (pos (c.args.first + y)))) c.args.band.now _
    (λ x y l h. (let e = c.laid-laid.ensures.ink ink (pos x) (pos (c.args.first + y)) in rw c.in-Across.is at e)) dots in
    rw (b.sheet, b.text, b.w, b.h, b.wide, b.rows, b.pitch, b.alignment) at same

pub returns-in-Along-clause-counted : goal.returns-in-Along-clause-counted
returns-in-Along-clause-counted g c = λ x k low e.
    let b = c.block_of-ink.ensures in
    let r = c.from_row-block.ensures in
    let some = (rw (r.sheet ∙ b.sheet, r.text ∙ b.text, r.w ∙ b.w, r.h ∙ b.h, r.wide ∙ b.wide, r.rows ∙ b.rows, r.pitch ∙ b.pitch, r.alignment ∙ b.alignment) at c.paint_block_along.ensures.counted) x k low e in
    omega (arith, some)

pub returns-in-Across-clause-counted : goal.returns-in-Across-clause-counted
returns-in-Across-clause-counted g c = λ x k low e. omega (arith, c.paint_block_across.ensures.counted)

pub paint_block_along-requires-clause-few : goal.paint_block_along-requires-clause-few
paint_block_along-requires-clause-few g c = text_few c.args.stored.now c.args.block _ c.requires.block (c.from_row-block.ensures.text ∙ c.block_of-ink.ensures.text)

pub paint_block_across-requires-clause-few : goal.paint_block_across-requires-clause-few
paint_block_across-requires-clause-few g c = text_few c.args.stored.now c.args.block _ c.requires.block (c.from_row-block.ensures.text ∙ c.block_of-ink.ensures.text)

pub returns-in-Along-clause-lines : goal.returns-in-Along-clause-lines
returns-in-Along-clause-lines g c = grind (arith, along_cost, text_less)

pub returns-in-Across-clause-lines : goal.returns-in-Across-clause-lines
returns-in-Across-clause-lines g c = grind (arith, across_cost, text_less)

pub returns-in-Along-clause-passed : goal.returns-in-Along-clause-passed
returns-in-Along-clause-passed g c = λ x k y l m e.
    let b = c.block_of-ink.ensures in
    let r = c.from_row-block.ensures in
    let d = c.args.block in
    let text = bytes_of c.args.stored.now d.text.bytes in
    let h = content_height c.args.sheets.now c.args.stored.now (contents.Block d) in
    let ink = content_dot c.args.sheets.now c.args.stored.now (contents.Block d) in
    let lines : lines_of c.args.on.orientation ≡ Along = sym c.laid-laid.ensures.lines ∙ c.in-Along.is in
    let most = most_lines (lines_of c.args.on.orientation) in
    let shown = rw (c.in-Along.is, b.w, b.h, b.wide, b.rows, b.pitch) at c.laid-laid.ensures.ink in
    let walked = rw (b.walked, b.passed, b.sheet, b.text, b.w, b.h, b.wide, b.rows, b.pitch, b.alignment) at r.counted in
    let painted = rw (r.sheet ∙ b.sheet, r.text ∙ b.text, r.w ∙ b.w, r.h ∙ b.h, r.wide ∙ b.wide, r.rows ∙ b.rows, r.pitch ∙ b.pitch, r.alignment ∙ b.alignment) at c.paint_block_along.ensures.counted in
    let few = text_few c.args.stored.now d _ c.requires.block b.text in
    let passed = passed_beside (block_layout c.args.sheets.now d) text y c.first_line-row.result most h (block_least (lines_of c.args.on.orientation) c.args.on.view) c.from_row-block.result.walked c.paint_block_along.result
    (dot_on c.laid-laid.result.columns (pos x)) (dot_on c.laid-laid.result.rows (pos (c.args.first + k))) (shown (part (y + most) h ink) (pos x) (pos (c.args.first + k)) ∙ e)
    (λ v n p. let near = c.first_line-row.ensures.near c.in-Along.is k v m (omega (arith, n, (rw (b.h, b.rows, b.pitch) at c.size-height.ensures.height))) p in omega (arith, near, ap most_lines lines))
    walked (omega (arith, few, r.walked, b.walked)) (λ w. let some = painted x k m (sym (shown ink (pos x) (pos (c.args.first + k))) ∙ w) in omega (arith, some, ap (λ o. block_least o c.args.on.view) lines)) in
    omega (arith, passed, c.walked-walked.ensures)

pub returns-in-Across-clause-passed : goal.returns-in-Across-clause-passed
returns-in-Across-clause-passed g c = λ x k y l m e.
    let b = c.block_of-ink.ensures in
    let r = c.from_row-block.ensures in
    let d = c.args.block in
    let text = bytes_of c.args.stored.now d.text.bytes in
    let h = content_height c.args.sheets.now c.args.stored.now (contents.Block d) in
    let ink = content_dot c.args.sheets.now c.args.stored.now (contents.Block d) in
    let lines : lines_of c.args.on.orientation ≡ Across = sym c.laid-laid.ensures.lines ∙ c.in-Across.is in
    let most = most_lines (lines_of c.args.on.orientation) in
    let shown = rw (c.in-Across.is, b.w, b.h, b.wide, b.rows, b.pitch) at c.laid-laid.ensures.ink in
    let height = rw (b.h, b.rows, b.pitch) at c.size-height.ensures.height in
    let walked = rw (b.walked, b.passed, b.sheet, b.text, b.w, b.h, b.wide, b.rows, b.pitch, b.alignment) at r.counted in
    let painted = rw (r.sheet ∙ b.sheet, r.text ∙ b.text, r.w ∙ b.w, r.h ∙ b.h, r.wide ∙ b.wide, r.rows ∙ b.rows, r.pitch ∙ b.pitch, r.alignment ∙ b.alignment) at c.paint_block_across.ensures.least in
    let seen : x < c.columns-columns.result = omega (arith, l, c.columns-columns.ensures, ap (λ o. block_columns o c.args.on.view) lines) in
    let few = text_few c.args.stored.now d _ c.requires.block b.text in
    let passed = passed_beside (block_layout c.args.sheets.now d) text y c.first_line-row.result most h (block_least (lines_of c.args.on.orientation) c.args.on.view) c.from_row-block.result.walked c.paint_block_across.result
    (dot_on c.laid-laid.result.rows (pos (c.args.first + k))) (dot_on c.laid-laid.result.columns (pos x)) (shown (part (y + most) h ink) (pos x) (pos (c.args.first + k)) ∙ e)
    (λ v n p. let near = c.first_line-row.ensures.within c.in-Across.is x v seen (omega (arith, n, height)) p in omega (arith, near, c.columns-columns.ensures, ap most_lines lines))
    walked (omega (arith, few, r.walked, b.walked)) (λ w. let some = painted x k seen m w in omega (arith, some, c.columns-columns.ensures, ap (λ o. block_least o c.args.on.view) lines)) in
    omega (arith, passed, c.walked-walked.ensures)
