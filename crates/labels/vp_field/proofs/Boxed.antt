-- Ink that lies in its box.
use Rattle.std.proofs.Common.{◌≡◌, ℕ, ◌+◌, ◌*◌, ◌<◌, true, false, sym, arith, List, [], ◌∷◌, ◌++◌, ℤ, pos, ◌+ℤ◌, ◌-ℤ◌, ◌≤ℤ◌, ◌<ℤ◌, Result, Ok, Err}
use Rattle.std.proofs.lemmas.Int.{ints}
use Rattle.std.proofs.lemmas.Bool.{and_parts, ltb-true, true≢false}
use Rattle.vp_dots.specs.declared.fault.Fault.{Fault}
use Rattle.vp_glyph.specs.Sheets.{Sheets}
use Rattle.vp_glyph.specs.Texts.{text_inside}
use Rattle.vp_glyph.specs.Blocks.{pitch, block_inside}
use Rattle.vp_glyph.proofs.Layouts.{layout}
use Rattle.vp_bar_code.specs.declared.HriPosition.{HriPosition}
use Rattle.vp_bars.specs.Symbols.{Linear}
use Rattle.vp_bars.specs.Boxes.{box_inside}
use Rattle.vp_zpl.specs.declared.item.Orientation.{Orientation}
use Rattle.vp_format.specs.Pictures as pictures
use Rattle.vp_format.specs.declared.field.Content.{Content}
use Rattle.vp_format.specs.declared.field.Content.TheVariants.{Text, Block, Box, Picture, Bars, Qr, Matrix, Ring, Diagonal}
use Rattle.vp_format.specs.declared.field.Field.{Field}
use Rattle.vp_shapes.specs.Ellipses.{no_ink_outside as ring_inside}
use Rattle.vp_shapes.specs.Diagonals.{no_ink_outside as diagonal_inside}
use Rattle.vp_label_size.specs.declared.TheConstants.{BAND_ROWS}
use Rattle.vp_field.specs.declared.view.View.{View}
use Rattle.vp_field.specs.Turning.{falls_y, turned_height}
use Rattle.vp_field.specs.Frames.{frame_inside}
use Rattle.vp_field.specs.Contents.{bytes_of, boxed_as, bars_width, bars_height, bars_dot, picture_of, picture_dot, content_width, content_height, content_dot, orientation_of}
use Rattle.vp_bars.specs.Symbologies.{symbol_of}
use Rattle.vp_field.specs.Fields.{field_ink}
use Rattle.vp_field.specs.Views.{seen_x, seen_y}
use Rattle.vp_field.specs.Strokes.{Stroke}
use Rattle.vp_field.specs.Bands.{Shows}
use Rattle.vp_field.specs.Laws.{InTheBox}
use Rattle.vp_field.proofs.Turns.{dots_fall}
use Rattle.vp_field.proofs.Folds.{label_dot-push, moved_dot}

bars_inside : (sheets : Sheets) (narrow wide height : ℕ) (place : HriPosition) (r : Result Linear Fault) (x y : ℕ) → bars_dot sheets narrow wide height place r x y ≡ true
    → (x < bars_width sheets narrow wide height place r) × (y < bars_height sheets narrow wide height place r)
bars_inside sheets narrow wide height place (Ok bars) x y e = box_inside (boxed_as sheets narrow wide height place bars) x y e
bars_inside sheets narrow wide height place (Err why) x y e = absurd (true≢false (sym e))

pub picture_inside : (p : pictures.Picture) (x y : ℕ) → picture_dot p x y ≡ true → (x < 8 * p.row_bytes) × (y < p.rows)
unfolding picture_dot
picture_inside p x y e = grind (arith, and_parts, ltb-true)

contents : (sheets : Sheets) (stored : List ℕ) (c : Content) (u v : ℕ) → content_dot sheets stored c u v ≡ true → (u < content_width sheets stored c) × (v < content_height sheets stored c)
contents sheets stored (Text t) u v e = text_inside sheets.a (bytes_of stored t.bytes) t.width t.height u v e
contents sheets stored (Block b) u v e = block_inside (layout sheets.a b.text.width b.text.height b.width b.lines (pitch b.text.height b.gap) b.alignment) (bytes_of stored b.text.bytes) u v e
contents sheets stored (Box b) u v e = frame_inside b.width b.height b.thickness u v e
contents sheets stored (Picture p) u v e = picture_inside (picture_of stored p) u v e
contents sheets stored (Bars b) u v e = bars_inside sheets b.narrow b.wide b.height b.place (symbol_of b.code (bytes_of stored b.bytes)) u v e
contents sheets stored (Qr q) u v e =
    let p = and_parts _ _ (and_parts _ _ e).0 in
    (ltb-true _ _ p.0, ltb-true _ _ p.1)
contents sheets stored (Matrix m) u v e =
    let p = and_parts _ _ (and_parts _ _ e).0 in
    (ltb-true _ _ p.0, ltb-true _ _ p.1)
contents sheets stored (Ring r) u v e = ring_inside r.width r.height r.thickness u v e
contents sheets stored (Diagonal d) u v e = diagonal_inside d.width d.height d.thickness d.leaning u v e

in_rows : (o : Orientation) (w h u v : ℕ) (top y : ℤ) → u < w → v < h → y -ℤ top ≡ falls_y o (pos w) (pos h) (pos u) (pos v) → (top ≤ℤ y) × (y <ℤ (top +ℤ pos (turned_height o w h)))
in_rows o w h u v top y h1 h2 h3 = grind (arith, ints)

rows : (sheets : Sheets) (stored : List ℕ) (f : Field) (x y : ℤ) → field_ink sheets stored f x y ≡ true
    → (f.top ≤ℤ y) × (y <ℤ (f.top +ℤ pos (turned_height (orientation_of f.orientation f.content) (content_width sheets stored f.content) (content_height sheets stored f.content))))
rows sheets stored f x y e =
    let o = orientation_of f.orientation f.content in
    let w = content_width sheets stored f.content in
    let h = content_height sheets stored f.content in
    let d = (dots_fall o w h (content_dot sheets stored f.content) (x -ℤ f.left) (y -ℤ f.top)).0 e in
    let p = contents sheets stored f.content d.0 d.1 d.2 in
    in_rows o w h d.0 d.1 f.top y p.0 p.1 d.4

skipped : (view : View) (first : ℕ) (s : Stroke) (band : List (List ℕ)) → ((x k : ℕ) → k < BAND_ROWS → s.ink (seen_x view (pos x)) (seen_y view (pos (first + k))) ≡ false)
    → (strokes : List Stroke) → Shows view first strokes band → Shows view first (strokes ++ s ∷ []) band
skipped view first s band n strokes q = grind (arith, moved_dot, label_dot-push)

pub in_the_box : InTheBox
in_the_box = record { contents = contents; rows = rows; skipped = skipped }
