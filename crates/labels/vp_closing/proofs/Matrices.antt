-- Two-dimensional symbols of what is asked for are kept as such.
use Rattle.std.proofs.Common.{◌≡◌, ◌<◌, ◌≤◌, ◌+◌, ◌*◌, ℕ, true, false, ltb, Option, None, Ok, Err, List, ◌++◌, length, length-append, ap, refl, arith}
use Rattle.std.proofs.lemmas.Bool.{le-ltb, lt-ltb}
use Rattle.vp_dots.specs.declared.fault.Fault.{Fault}
use Rattle.vp_dots.specs.declared.fault.Fault.TheVariants.{StoreFull}
use Rattle.vp_dots.specs.Images.{row_bytes}
use Rattle.vp_dots.proofs.ImageLaws.{length-image_rows}
use Rattle.vp_glyph.specs.Sheets.{Sheets}
use Rattle.vp_format.specs.declared.field.Content.TheVariants as contents
use Rattle.vp_format.specs.declared.field.MatrixSymbol.{MatrixSymbol}
use Rattle.vp_format.specs.declared.field.Span.{Span}
use Rattle.vp_format.specs.declared.format.TheConstants.{STORED}
use Rattle.vp_matrix.specs.declared.code.MatrixCode.{MatrixCode}
use Rattle.vp_matrix.specs.Encoding.{columns_of, rows_of}
use Rattle.vp_field.specs.Contents.{bytes_of, LiesIn, IsMatrixSymbol}
use Rattle.vp_field.specs.Sizes.{sized}
use Rattle.vp_field.specs.declared.sized.SizedContent.{SizedContent}
use Rattle.vp_label_settings.specs.declared.settings.BarDefaults.{BarDefaults}
use Rattle.vp_label_settings.specs.declared.choice.MatrixAsked.{MatrixAsked}
use Rattle.vp_closing.specs.Contents.{sized_if, HaveSymbol}
use Rattle.vp_closing.specs.Matrices.{plain_data, data_refusal, code_of, escape_of, wide_of, high_of, image_of, modules_of, modules_len, matrix_symbol, have_no_room, matrix_of, matrix_made}

abbrev pub symbol : ℕ → ℕ → ℕ → ℕ → ℕ → ℕ → MatrixSymbol
symbol start len columns rows wide high = record {
  modules = record { start = start; len = len };
  columns = columns;
  rows = rows;
  wide = wide;
  high = high;
}

-- how many bytes the modules have
made_len : (code : MatrixCode) (src : List ℕ) → length (modules_of code src) ≡ modules_len code src
unfolding modules_of
made_len code src = length-image_rows (image_of code src)

module _ (stored : List ℕ) (d : BarDefaults) (asked : MatrixAsked) (bytes : Span) (src : List ℕ) (code : MatrixCode) (escape : Option ℕ) (columns rows len : ℕ)
    (s : src ≡ bytes_of stored bytes) (c : code ≡ code_of asked src) (e : escape ≡ escape_of asked) (n : data_refusal code escape src ≡ None)
    (across : columns ≡ columns_of code (plain_data escape src)) (down : rows ≡ rows_of code (plain_data escape src)) (l : len ≡ rows * row_bytes columns) where
  abbrev now : List ℕ
  now = bytes_of stored bytes

  abbrev code_now : MatrixCode
  code_now = code_of asked now

  abbrev plain : List ℕ
  plain = plain_data (escape_of asked) now

  none : data_refusal code_now (escape_of asked) now ≡ None
  none = rw (c, e, s) at n

  columns_now : columns ≡ columns_of code_now plain
  columns_now = rw (c, e, s) at across

  rows_now : rows ≡ rows_of code_now plain
  rows_now = rw (c, e, s) at down

  len_now : len ≡ modules_len code_now plain
  len_now = rw (rows_now, columns_now) at l

  fits : length stored + len ≤ STORED → have_no_room stored code_now plain ≡ false
  fits room = le-ltb STORED (length stored + modules_len code_now plain) (rw len_now at room)

  pub have_symbol : length stored + len ≤ STORED → HaveSymbol stored asked bytes
  have_symbol room = record { accepted = none; room = fits room }

  -- the symbol is that of what is asked for
  pub is_asked : (sheets : Sheets) (shown : SizedContent) (start wide high : ℕ) → start ≡ length stored → length stored + len ≤ STORED → wide ≡ wide_of d rows asked → high ≡ high_of d rows asked
      → shown ≡ sized sheets stored (contents.Matrix (symbol start len columns rows wide high)) → Ok shown ≡ sized_if sheets stored (matrix_of stored d asked bytes)
  is_asked sheets shown start wide high st room w h is =
      let full : shown ≡ sized sheets stored (contents.Matrix (matrix_symbol d asked (length stored) code_now plain)) = rw (w, h, st, len_now, rows_now, columns_now) at is in
      rw (none, fits room) (ap (λ (x : SizedContent). Ok x) full)

  -- there is no room for it
  pub is_full : (sheets : Sheets) → STORED < length stored + len → Err StoreFull ≡ sized_if sheets stored (matrix_of stored d asked bytes)
  is_full sheets room =
      let full : have_no_room stored code_now plain ≡ true = lt-ltb STORED (length stored + modules_len code_now plain) (rw len_now at room) in
      rw (none, full) refl

  -- its parameters are in their ranges, and its modules will be stored
  pub is_shown : (start wide high : ℕ) → start ≡ length stored → length stored + len ≤ STORED → 0 < wide → wide ≤ 64 → 0 < high → high ≤ 1000
      → IsMatrixSymbol (stored ++ matrix_made stored asked bytes) (symbol start len columns rows wide high)
  is_shown start wide high st room wide_some wide_most high_some high_most = record {
    modules = record { inside = omega (arith, st, len_now, length-append stored (matrix_made stored asked bytes), made_len code_now plain); few = omega (arith, room) };
    wide_some = wide_some;
    wide_most = wide_most;
    high_some = high_some;
    high_most = high_most;
  }
