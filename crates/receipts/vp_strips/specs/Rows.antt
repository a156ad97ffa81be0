-- The strips that are printed.
use Rattle.std.specs.Prelude.{ℕ, ◌-◌, ◌*◌, ◌/◌, ◌%◌, nat_lt, nat_le, Bool, true, false, ◌&&◌, ◌==◌, List, [], flat_map, Option, Some, None}
use Rattle.std.specs.List.{range_with_len}
use Rattle.vp_dots.specs.Dots.{dot}
use Rattle.vp_dots.specs.Images.{Image, row_of, pbm}
use Rattle.vp_esc.specs.declared.item.EscItem.{EscItem}
use Rattle.vp_esc.specs.declared.item.Cut.{Cut}
use Rattle.vp_esc.specs.declared.item.Cut.TheVariants.{Full, Partial}
use Rattle.vp_receipt_settings.specs.declared.width.Width.{Width}
use Rattle.vp_receipt_settings.specs.Setup.{Setup, across, row_bytes}
use Rattle.vp_receipt_settings.specs.Line.{line, height, right_edge}
use Rattle.vp_receipt_settings.specs.Settings.{paper_length, printed_at}
use Rattle.vp_strips.specs.LineDots.{any_dot}

-- dots that begin `left` dots from the left, of which `length` are seen
abbrev pub clipped : ℕ → ℕ → (ℕ → Bool) → ℕ → Bool
clipped left length f x = nat_le left x && nat_lt (x - left) length && f (x - left)

-- dot (x, y) of the line's strip: the rows of the line, and then spare ones
abbrev pub printed_dot : Setup → List EscItem → ℕ → ℕ → Bool
printed_dot setup before x y =
    let placed = line setup before in
    let at = printed_at setup before (right_edge placed) in
    nat_lt y (height placed)
    && clipped at (paper_length setup before) (λ u. any_dot placed (height placed) u y) x

-- dot x of a row of a raster, which is clipped to the line length
abbrev pub raster_dot : Setup → List EscItem → ℕ → ℕ → List ℕ → ℕ → Bool
raster_dot setup before times bytes row =
    clipped (printed_at setup before (8 * bytes * times)) (paper_length setup before)
    (λ x. dot row (x / times))

-- GS V, ESC i: a full cut is black, a partial one is black and white by bytes
abbrev pub cut_dot : Cut → ℕ → Bool
cut_dot Full x = true
cut_dot Partial x = x / 8 % 2 == 0

-- the bytes of a row across the paper
unfoldable pub paper_row : Width → (ℕ → Bool) → List ℕ
paper_row paper f = row_of (row_bytes paper) f

-- the bytes of n rows from row y on
abbrev pub rows_text : Width → (ℕ → ℕ → Bool) → ℕ → ℕ → List ℕ
rows_text paper f y n = flat_map (λ y. paper_row paper (λ x. f x y)) (range_with_len y n)

-- a strip of `rows` rows across the paper: an image
abbrev pub strip_text : Width → ℕ → (ℕ → ℕ → Bool) → List ℕ
strip_text paper rows f = pbm (record { width = across paper; height = rows; is_black = f })

-- the line, in a strip of `rows` rows
abbrev pub line_text : Setup → List EscItem → ℕ → List ℕ
line_text setup before rows = strip_text setup.width rows (printed_dot setup before)

-- a cut: a strip of one row
abbrev pub cut_text : Width → Cut → List ℕ
cut_text paper cut = strip_text paper 1 (λ x y. cut_dot cut x)

-- white rows
abbrev pub white_text : Width → ℕ → List ℕ
white_text paper rows = strip_text paper rows (λ x y. false)

-- an image in a strip of its own: shifted like a line, and clipped to the line length
abbrev pub image_dot : Setup → List EscItem → Image → ℕ → ℕ → Bool
image_dot setup before image x y =
    clipped (printed_at setup before image.width) (paper_length setup before) (λ u. image.is_black u y) x

abbrev pub image_text : Setup → List EscItem → Option Image → List ℕ
image_text setup before None = []
image_text setup before (Some image) = strip_text setup.width image.height (image_dot setup before image)
