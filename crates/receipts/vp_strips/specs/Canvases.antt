-- What strips are painted from: sheets, the rows of the line, the row of a raster, the symbol and the page.
use Rattle.std.specs.Prelude.{ℕ, List}
use Rattle.vp_glyph.specs.Sheets.{Sheets}
use Rattle.vp_page.specs.Pages.{Paged}
use Rattle.vp_strips.specs.declared.canvas.Canvas.{Canvas as CanvasOver}
use Rattle.vp_strips.specs.declared.symbol.Symbol.{Symbol}

pub record Canvas : Type 0 where
  pub sheets : Sheets
  pub bitmap : List (List ℕ)
  pub raster_row : List ℕ
  pub symbol : Symbol
  pub page : Paged

-- a canvas, whatever allocator its memory is from
abbrev pub canvas_of : {A : Type 0} → CanvasOver A → Canvas
canvas_of c = record {
  sheets = c.sheets;
  bitmap = c.bitmap;
  raster_row = c.raster_row;
  symbol = c.symbol;
  page = c.page;
}
