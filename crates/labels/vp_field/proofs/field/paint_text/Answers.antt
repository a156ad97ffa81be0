use Rattle.std.proofs.Common.{ℕ, ◌^◌, ◌≤◌, List, length, drop, arith}
use Rattle.std.proofs.lemmas.List.{length-take}
use Rattle.vp_format.specs.declared.field.Text.{Text}
use Rattle.vp_glyph.specs.Texts.{seen_cells}
use Rattle.vp_field.specs.Contents.{bytes_of, IsText}
use Rattle.vp_field.proofs.Counts.{fewer_cost}
use Rattle.vp_field.proofs.field.paint_text.Goals as goal

-- no more cells are seen than the text has bytes
cells_less : (stored : List ℕ) (t : Text) (d : ℕ) → seen_cells (length (bytes_of stored t.bytes)) t.width d ≤ seen_cells t.bytes.len t.width d
cells_less stored t d = omega (arith, length-take t.bytes.len (drop t.bytes.start stored))

cells_few : (stored : List ℕ) (t : Text) → IsText stored t → (d : ℕ) → seen_cells (length (bytes_of stored t.bytes)) t.width d ≤ 2 ^ 40
cells_few stored t kept d = omega (arith, length-take t.bytes.len (drop t.bytes.start stored), kept.bytes.few)

pub returns-clause-dots : goal.returns-clause-dots
returns-clause-dots g c =
    let t = c.cells-text.ensures in
    rw (t.sheet, t.text, t.w, t.h) at c.paint_standing.ensures.dots

pub returns-clause-counted : goal.returns-clause-counted
returns-clause-counted g c =
    let t = c.cells-text.ensures in
    rw (t.sheet, t.text, t.w, t.h) at c.paint_standing.ensures.counted

pub paint_standing-requires-clause-few : goal.paint_standing-requires-clause-few
paint_standing-requires-clause-few g c = grind (arith, cells_few)

pub returns-clause-lines : goal.returns-clause-lines
returns-clause-lines g c = grind (arith, fewer_cost, cells_less)
