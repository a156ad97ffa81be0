use Rattle.std.proofs.Common.{◌≡◌, true, ◌+◌, ◌≤◌, length, vec_capacity, Ok}
use Rattle.vp_font.specs.Words.{lines}
use Rattle.vp_font.specs.Glyphs.{Rising}
use Rattle.vp_font.specs.Orders.{ordered, Below}
use Rattle.vp_font.specs.Fonts.{read_from, count_from, font_of}
use Rattle.vp_font.proofs.font.fill.Given as goal

-- with the lines that are left the font is that of all, and there is room for what they give; codes rise
abbrev pub invariant-loop-line : goal.invariant-loop-line
invariant-loop-line g l = record {
  font : read_from l.number l.state l.letters.items l.raster.items (lines l.rest) ≡ font_of l.src;
  counts : count_from l.number l.state (length l.letters.items) (length l.raster.items) (lines l.rest)
      ≡ Ok (record { letters = vec_capacity l.letters; bytes = vec_capacity l.raster });
  ordered : ordered l.state ≡ true;
  rising : Rising l.letters.items;
  below : Below l.state.last l.letters.items;
  numbered : l.number + length l.rest ≤ length l.src + 1;
  letters_room : vec_capacity l.letters ≡ vec_capacity l.fn.letters;
  raster_room : vec_capacity l.raster ≡ vec_capacity l.fn.raster;
}

abbrev pub decreases-loop-line : goal.decreases-loop-line
decreases-loop-line g l = length l.rest
