-- The header of a sheet, as netpbm has it for raw PBM.
use Rattle.std.specs.Prelude.{ℕ, Bool, false, ◌==◌, nat_le, nat_lt, ◌&&◌, ◌||◌, List, [], ◌∷◌, take, drop, Option, None, Some, if◌then◌else◌}
use Rattle.std.specs.List.{prefix_len}
use Rattle.std.specs.Str.Parse.{digits_value}
use Prim.Native.Char.{code}

-- a blank, TAB, CR or LF
abbrev pub white : ℕ → Bool
white b = b == 0x20 || b == 0x09 || b == 0x0D || b == 0x0A

-- CR or LF
abbrev pub ends_line : ℕ → Bool
ends_line b = b == 0x0D || b == 0x0A

-- 0 to 9
abbrev pub digit : ℕ → Bool
digit b = nat_le 48 b && nat_le b 57

-- a gap begins with a white byte, or with # for a comment
abbrev pub begins_gap : List ℕ → Bool
begins_gap [] = false
begins_gap (b ∷ text) = white b || b == code "#"

abbrev mutual
  -- what stands behind the white bytes and comments at the front of a text
  pub past_gap : List ℕ → List ℕ
  past_gap [] = []
  past_gap (b ∷ text) =
      if white b then past_gap text else (if b == code "#" then past_comment text else b ∷ text)

  -- the same inside a comment, which ends with the next CR or LF
  pub past_comment : List ℕ → List ℕ
  past_comment [] = []
  past_comment (b ∷ text) = if ends_line b then past_gap text else past_comment text

-- a number, and what stands behind it
pub record Number : Type 0 where
  pub value : ℕ
  pub rest : List ℕ

-- the number of one or more digits that stands behind a gap, if there is one
abbrev pub number_behind : List ℕ → Option Number
number_behind text = let rest = past_gap text in let n = prefix_len digit rest in
    if begins_gap text && nat_lt 0 n then Some (record {
      value = digits_value 10 (take n rest);
      rest = drop n rest;
    }) else None

-- width, height and raster
pub record Header : Type 0 where
  pub width : ℕ
  pub height : ℕ
  pub raster : List ℕ

-- a text that begins with one white byte, without that
abbrev pub behind_white : List ℕ → Option (List ℕ)
behind_white [] = None
behind_white (b ∷ text) = if white b then Some text else None

-- a header behind its magic: a gap, the width, a gap, the height and one white byte
abbrev pub header_behind : List ℕ → Option Header
header_behind text = with_width (number_behind text)
  where
    with_raster : ℕ → ℕ → Option (List ℕ) → Option Header
    with_raster width height None = None
    with_raster width height (Some raster) = Some (record { width = width; height = height; raster = raster })

    with_height : ℕ → Option Number → Option Header
    with_height width None = None
    with_height width (Some height) = with_raster width height.value (behind_white height.rest)

    with_width : Option Number → Option Header
    with_width None = None
    with_width (Some width) = with_height width.value (number_behind width.rest)
