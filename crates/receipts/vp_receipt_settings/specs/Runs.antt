-- What comes in a run: text, bytes that are stored, and bytes of a raster.
use Rattle.std.specs.Prelude.{ℕ, ◌-◌, ◌/◌, nat_lt, List, ◌++◌, reverse}
use Rattle.vp_esc.specs.declared.item.EscItem.{EscItem}
use Rattle.vp_esc.specs.Reader.{text_items, stored_items}
use Rattle.vp_glyph.specs.Cells.{cell_width}
use Rattle.vp_receipt_settings.specs.declared.page_mode.PrinterMode.{PrinterMode}
use Rattle.vp_receipt_settings.specs.declared.page_mode.PrinterMode.TheVariants.{Standard, Page}
use Rattle.vp_receipt_settings.specs.declared.settings.Settings.{Settings}
use Rattle.vp_receipt_settings.specs.Texts.{style_of}
use Rattle.vp_receipt_settings.specs.Settings.{settings_length}
use Rattle.vp_receipt_settings.specs.Pages.{vertical_after, raised}
use Rattle.vp_receipt_settings.specs.Rasters.{bytes_within_row, bytes_to_come}

-- the items with those of this text after them
abbrev pub text_after : List ℕ → List EscItem → List EscItem
text_after text before = reverse (text_items text) ++ before

-- the items with these bytes after them, which are stored for a QR symbol
abbrev pub stored_after : List ℕ → List EscItem → List EscItem
stored_after bytes before = reverse (stored_items bytes) ++ before

-- how many characters go into the line before one could break it
abbrev pub text_room : Settings → ℕ
text_room s = (settings_length s - s.position) / cell_width s.text.font (style_of s.text)

-- how many bytes of a raster come before one that prints: on paper the one that ends the row, on a page none
abbrev pub raster_run : PrinterMode → List EscItem → ℕ
raster_run Standard before = bytes_within_row before
raster_run Page before = bytes_to_come before

-- the settings after `rows` rows of a raster were printed or laid
abbrev pub below : Settings → ℕ → Settings
below s rows = record s {
  page = record s.page {
    vertical = vertical_after s.page.vertical rows;
    used = raised (nat_lt 0 rows) s.page.area s.page.used;
  };
}
