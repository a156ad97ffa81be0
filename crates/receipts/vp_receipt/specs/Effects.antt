-- What an effect leaves of the line, prints, and lays on the page.
use Rattle.std.specs.Prelude.{ℕ, if◌then◌else◌, List, [], ◌∷◌, ◌++◌, Option, Some, None}
use Rattle.vp_dots.specs.Headers.{header_of}
use Rattle.vp_dots.specs.Images.{Image}
use Rattle.vp_esc.specs.declared.item.EscItem.{EscItem}
use Rattle.vp_page.specs.Layers.{Layer, Wiped}
use Rattle.vp_receipt_settings.specs.declared.effect.Piece.{Piece}
use Rattle.vp_receipt_settings.specs.declared.effect.Piece.TheVariants.{Character, Column8, Column24}
use Rattle.vp_receipt_settings.specs.declared.effect.Effect.{Effect}
use Rattle.vp_receipt_settings.specs.declared.effect.Effect.TheVariants.{Initializes, Puts, Breaks, Feeds, Cuts, BeginsRaster, Draws, BeginsPage, LeavesPage, Lays, Wipes, PrintsPage, EndsPage}
use Rattle.vp_receipt_settings.specs.declared.page_mode.PrinterMode.{PrinterMode}
use Rattle.vp_receipt_settings.specs.declared.page_mode.PrinterMode.TheVariants.{Page}
use Rattle.vp_receipt_settings.specs.Setup.{Setup, across}
use Rattle.vp_receipt_settings.specs.Pages.{is_paged, area}
use Rattle.vp_receipt_settings.specs.Line.{Placed, line, position, mode, character, column8, column24, ended_rows}
use Rattle.vp_strips.specs.Rows.{cut_text, white_text, line_text}
use Rattle.vp_strips.specs.Canvases.{Canvas}
use Rattle.vp_strips.specs.declared.job.Job.{Job}
use Rattle.vp_strips.specs.Held.{job_text}
use Rattle.vp_receipt.specs.PageMarks.{layers, printed_layers}
use Rattle.vp_receipt.specs.Strips.{page_text}

-- the image of a piece
abbrev pub piece_image : Setup → List EscItem → Piece → Image
piece_image setup before (Character code) = character setup before code
piece_image setup before (Column8 byte) = column8 before byte
piece_image setup before (Column24 bytes) = column24 before bytes

-- the line after it
abbrev pub line_by : Setup → List EscItem → Effect → List Placed
line_by setup before Initializes = []
line_by setup before (Puts piece) =
    record { at = position setup before; image = piece_image setup before piece } ∷ line setup before
line_by setup before (Breaks rows code) = record { at = 0; image = character setup before code } ∷ []
line_by setup before (Feeds rows) = []
line_by setup before (Cuts dots cut) = if is_paged (mode setup before) then line setup before else []
line_by setup before (BeginsRaster rows) = []
line_by setup before Draws = []
line_by setup before LeavesPage = []
line_by setup before (Lays next) = if is_paged (mode setup before) then [] else line setup before
line_by setup before Wipes = if is_paged (mode setup before) then [] else line setup before
line_by setup before PrintsPage = if is_paged (mode setup before) then [] else line setup before
line_by setup before EndsPage = if is_paged (mode setup before) then [] else line setup before
line_by setup before _ = line setup before

-- the rows of the line's strip that it prints on paper
abbrev pub line_rows_by : Setup → List EscItem → Effect → ℕ
line_rows_by setup before (Breaks rows code) = rows
line_rows_by setup before (Feeds rows) = rows
line_rows_by setup before (Cuts dots cut) = ended_rows setup before
line_rows_by setup before (BeginsRaster rows) = ended_rows setup before
line_rows_by setup before _ = 0

-- what it prints of its own on paper
abbrev pub own_by : Setup → Effect → List ℕ
own_by setup (Cuts dots cut) = white_text setup.width dots ++ cut_text setup.width cut
own_by setup (BeginsRaster rows) = header_of (across setup.width) rows
own_by setup _ = []

-- what it prints on paper
abbrev pub strips_by : Setup → List EscItem → Effect → List ℕ
strips_by setup before effect =
    line_text setup before (line_rows_by setup before effect) ++ own_by setup effect

-- what it prints of a page
abbrev pub page_by : Setup → List EscItem → Effect → List ℕ
page_by setup before PrintsPage = page_text setup before
page_by setup before EndsPage = page_text setup before
page_by setup before _ = []

-- what it prints of its own
abbrev pub part_by : Setup → List EscItem → Effect → List ℕ
part_by setup before effect =
    if is_paged (mode setup before) then page_by setup before effect else own_by setup effect

-- what it prints
abbrev pub prints_by : Setup → List EscItem → Effect → List ℕ
prints_by setup before effect =
    if is_paged (mode setup before) then page_by setup before effect else strips_by setup before effect

-- the layers of the page after it
abbrev pub layers_by : Setup → List EscItem → Effect → List Layer
layers_by setup before (Breaks rows code) = printed_layers setup before
layers_by setup before (Feeds rows) = printed_layers setup before
layers_by setup before (BeginsRaster rows) = printed_layers setup before
layers_by setup before BeginsPage = []
layers_by setup before (Lays next) = printed_layers setup before
layers_by setup before Wipes = Wiped (area setup before) ∷ printed_layers setup before
layers_by setup before PrintsPage = printed_layers setup before
layers_by setup before EndsPage = printed_layers setup before
layers_by setup before _ = layers setup before

-- the mode in which the page has them
abbrev pub mode_by : Setup → List EscItem → Effect → PrinterMode
mode_by setup before BeginsPage = Page
mode_by setup before _ = mode setup before

-- what a job puts out, if there is one
abbrev pub text_if : Option Job → Canvas → List ℕ
text_if None canvas = []
text_if (Some job) canvas = job_text job canvas
