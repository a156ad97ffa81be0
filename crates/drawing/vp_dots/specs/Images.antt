-- Images: boxes of dots, and their bytes (netpbm, raw pbm: 1 is black, the
-- leftmost dot is a byte's highest bit).
use Rattle.std.specs.Prelude.{ℕ, ◌+◌, ◌/◌, ◌^◌, zero, suc, Bool, nat_lt, ◌==◌, ◌&&◌, List, [], ◌∷◌, ◌++◌, flat_map, if◌then◌else◌}
use Rattle.std.specs.List.{range_with_len}
use Rattle.vp_dots.specs.Headers.{header_of}

-- the number whose n bits are places at, at + 1, .. of f, the first one highest
abbrev pub packed : ℕ → (ℕ → Bool) → ℕ → ℕ
packed zero f at = 0
packed (suc n) f at = (if f at then 2 ^ n else 0) + packed n f (at + 1)

-- n bytes whose dots are places at, at + 1, .. of f
abbrev pub row_from : ℕ → (ℕ → Bool) → ℕ → List ℕ
row_from zero f at = []
row_from (suc n) f at = packed 8 f at ∷ row_from n f (at + 8)

-- the n bytes of a row whose dots are those of f
abbrev pub row_of : ℕ → (ℕ → Bool) → List ℕ
row_of n f = row_from n f 0

-- an image: `width` dots wide and `height` rows high, and which of its places are black
pub record Image : Type 0 where
  pub width : ℕ
  pub height : ℕ
  pub is_black : ℕ → ℕ → Bool

-- how many bytes hold a row of `width` dots
abbrev pub row_bytes : ℕ → ℕ
row_bytes width = (width + 7) / 8

-- the bytes of row y of an image: the dots past its width are white
abbrev pub image_row : Image → ℕ → List ℕ
image_row i y = row_of (row_bytes i.width) (λ x. nat_lt x i.width && i.is_black x y)

-- the bytes of all rows of an image, from the top
abbrev pub image_rows : Image → List ℕ
image_rows i = flat_map (image_row i) (range_with_len 0 i.height)

-- the text of an image: the header and the rows; none where there is no row
abbrev pub pbm : Image → List ℕ
pbm i = if i.height == 0 then [] else header_of i.width i.height ++ image_rows i
