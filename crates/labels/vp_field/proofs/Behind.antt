-- Bytes stored behind those that a field names.
use Rattle.std.proofs.lemmas.Grind.{common_steps}
use Rattle.std.proofs.Common.{◌≡◌, ℕ, ◌*◌, refl, ap, ◌∙◌, arith, List, ◌++◌, length, length-append, ℤ, Bool}
use Rattle.std.proofs.lemmas.List.{drop-append-le, take-append-le, length-drop}
use Rattle.vp_dots.specs.declared.Op.{Op}
use Rattle.vp_glyph.specs.Sheets.{Sheets}
use Rattle.vp_glyph.specs.Texts.{text_dot}
use Rattle.vp_glyph.specs.Blocks.{block_width, block_height, block_dot, pitch}
use Rattle.vp_glyph.proofs.Layouts.{layout}
use Rattle.vp_zpl.specs.declared.item.Orientation.{Orientation}
use Rattle.vp_zpl.specs.declared.item.Orientation.TheVariants.{Normal}
use Rattle.vp_format.specs.declared.field.Content.{Content}
use Rattle.vp_format.specs.declared.field.Content.TheVariants.{Text, Block, Box, Picture, Bars, Qr, Matrix, Ring, Diagonal}
use Rattle.vp_format.specs.declared.field.Span.{Span}
use Rattle.vp_field.specs.Contents.{bytes_of, bars_width, bars_height, bars_dot, qr_side, qr_dot, picture_dot, content_width, content_height, content_dot, orientation_of, LiesIn, IsStored}
use Rattle.vp_bars.specs.Symbologies.{symbol_of}
use Rattle.vp_field.specs.Matrices.{matrix_width, matrix_height, matrix_dot}
use Rattle.vp_field.specs.Standing.{standing}
use Rattle.vp_field.specs.Strokes.{Stroke}
use Rattle.vp_field.specs.Turning.{turned_height}
use Rattle.vp_field.specs.Laws.{StoredBehind}

lies_in : (stored more : List ℕ) (s : Span) → LiesIn stored s → LiesIn (stored ++ more) s
lies_in stored more s l = record { inside = (let n = length-append stored more in let h = l.inside in omega arith); few = l.few }

bytes_behind : (stored more : List ℕ) (s : Span) → LiesIn stored s → bytes_of (stored ++ more) s ≡ bytes_of stored s
bytes_behind stored more s l = grind (arith, drop-append-le, take-append-le, length-drop)

is_stored : (stored more : List ℕ) (c : Content) → IsStored stored c → IsStored (stored ++ more) c
is_stored stored more c h1 = grind (arith, common_steps, lies_in, bytes_behind)

abbrev ink : Sheets → ℤ → ℤ → Orientation → Content → List ℕ → ℤ → ℤ → Bool
ink sheets left top o c stored =
    standing left top (orientation_of o c) (content_width sheets stored c) (content_height sheets stored c) (content_dot sheets stored c)

ink_behind : (sheets : Sheets) (left top : ℤ) (o : Orientation) (c : Content) (stored more : List ℕ) → IsStored stored c → ink sheets left top o c (stored ++ more) ≡ ink sheets left top o c stored
ink_behind sheets left top o (Text t) stored more h =
    ap (λ (b : List ℕ). standing left top o (t.width * length b) t.height (λ x y. text_dot sheets.a b t.width t.height x y)) (bytes_behind stored more t.bytes h.bytes)
ink_behind sheets left top o (Block b) stored more h =
    let p = pitch b.text.height b.gap in
    ap (λ (t : List ℕ). standing left top o (block_width b.width b.text.width) (block_height b.text.height b.lines p) (λ x y. block_dot (layout sheets.a b.text.width b.text.height b.width b.lines p b.alignment) t x y))
    (bytes_behind stored more b.text.bytes h.text.bytes)
ink_behind sheets left top o (Box b) stored more h = refl
ink_behind sheets left top o (Picture p) stored more h =
    ap (λ (b : List ℕ). standing left top Normal (8 * p.row_bytes) p.rows (λ x y. picture_dot (record { coding = p.coding; codes = b; row_bytes = p.row_bytes; rows = p.rows }) x y))
    (bytes_behind stored more p.codes h.codes)
ink_behind sheets left top o (Bars b) stored more h =
    ap (λ (d : List ℕ). standing left top o (bars_width sheets b.narrow b.wide b.height b.place (symbol_of b.code d)) (bars_height sheets b.narrow b.wide b.height b.place (symbol_of b.code d))
    (λ x y. bars_dot sheets b.narrow b.wide b.height b.place (symbol_of b.code d) x y)) (bytes_behind stored more b.bytes h)
ink_behind sheets left top o (Qr q) stored more h =
    ap (λ (d : List ℕ). standing left top Normal (qr_side q.level q.mode d q.module) (qr_side q.level q.mode d q.module) (λ x y. qr_dot q.level q.mode d q.module x y)) (bytes_behind stored more q.bytes h.bytes)
ink_behind sheets left top o (Matrix m) stored more h =
    ap (λ (d : List ℕ). standing left top o (matrix_width m) (matrix_height m) (λ x y. matrix_dot m d x y)) (bytes_behind stored more m.modules h.modules)
ink_behind sheets left top o (Ring r) stored more h = refl
ink_behind sheets left top o (Diagonal d) stored more h = refl

-- the rows of a content that is turned
abbrev rows : Sheets → Orientation → Content → List ℕ → ℕ
rows sheets o c stored =
    turned_height (orientation_of o c) (content_width sheets stored c) (content_height sheets stored c)

rows_behind : (sheets : Sheets) (o : Orientation) (c : Content) (stored more : List ℕ) → IsStored stored c → rows sheets o c stored ≡ rows sheets o c (stored ++ more)
rows_behind sheets o c stored more h1 = grind (arith, bytes_behind)

pub stored_behind : StoredBehind
stored_behind = record {
  kept = λ stored more f h. record {
    near = h.near;
    content = is_stored stored more f.content h.content;
    rows = λ sheets. h.rows sheets ∙ rows_behind sheets f.orientation f.content stored more h.content;
  };
  stroke = λ sheets stored more f h. ap (λ i. stroke f.op i) (ink_behind sheets f.left f.top f.orientation f.content stored more h.content);
}
  where
    stroke : Op → (ℤ → ℤ → Bool) → Stroke
    stroke op i = record { op = op; ink = i }
