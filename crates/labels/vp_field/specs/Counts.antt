-- Lines that were handed out, and pieces of them.
use Rattle.std.specs.Prelude.{◌≡◌, ℕ, ◌+◌, ◌*◌, ◌^◌, ◌<◌, ◌≤◌, pos, true, List}
use Rattle.vp_glyph.specs.Above.{pieces_above}
use Rattle.vp_glyph.specs.Sheets.{Sheets}
use Rattle.vp_format.specs.declared.field.Content.TheVariants as contents
use Rattle.vp_format.specs.declared.field.TextBlock.{TextBlock}
use Rattle.vp_field.specs.Axes.{lines_of}
use Rattle.vp_field.specs.Contents.{bytes_of, block_layout, content_width, content_height, content_dot, most_lines}
use Rattle.vp_field.specs.Drawn.{part}
use Rattle.vp_field.specs.Standing.{standing}
use Rattle.vp_field.specs.Views.{seen_x, seen_y, columns_of}
use Rattle.vp_field.specs.declared.axis.Lines.{Lines}
use Rattle.vp_field.specs.declared.axis.Lines.TheVariants.{Along, Across}
use Rattle.vp_field.specs.declared.standing.Standing.{Standing}
use Rattle.vp_field.specs.declared.view.View.{View}
use Rattle.vp_label_size.specs.declared.TheConstants.{BAND_ROWS, WIDEST}

-- so many lines have so many pieces, each at most `most`, which can be counted
pub record ArePieces (most lines pieces : ℕ) : Type 0 where
  pub few : most ≤ 2 ^ 40
  pub within : pieces ≤ lines * most

-- on which columns of a band a block is painted: on all along its rows, and across them on those of the label
abbrev pub block_columns : Lines → View → ℕ
block_columns Along view = WIDEST
block_columns Across view = columns_of view

-- what a block takes at least on a band where it has ink there, beside the lines that are passed: a line
-- along its rows. Across them all columns of the label are drawn, for which a line of the text is walked, and
-- one is laid
abbrev pub block_least : Lines → View → ℕ
block_least Along view = 1
block_least Across view = columns_of view + 2

-- where a block has ink on a band so far below row y that no row above y is on it, all that the lines have
-- counts that end above row y, beside what a block with ink takes
abbrev pub ArePassed : Sheets → List ℕ → TextBlock → Standing → ℕ → ℕ → Type 0
ArePassed sheets stored b on first work =
    let block = contents.Block b in
    (x k y : ℕ) → x < block_columns (lines_of on.orientation) on.view → k < BAND_ROWS
    → standing on.left on.top on.orientation (content_width sheets stored block)
    (content_height sheets stored block) (part (y + most_lines (lines_of on.orientation))
    (content_height sheets stored block) (content_dot sheets stored block)) (seen_x on.view (pos x))
    (seen_y on.view (pos (first + k))) ≡ true
    → pieces_above (block_layout sheets b) (bytes_of stored b.text.bytes) y
    + block_least (lines_of on.orientation) on.view ≤ work
