-- The picture of a joined image.
use Rattle.std.specs.Prelude.{◌≡◌, ◌⊎◌, ℕ, ◌<◌, nat_lt, Bool, true, false, List, [], ◌++◌, length, Option, Result, Ok, Err}
use Rattle.std.specs.Io.KnownBytes.{Appends}
use Rattle.vp_dots.specs.Headers.{header_of}
use Rattle.vp_dots.specs.Images.{Image, row_bytes, image_rows}
use Rattle.vp_png.specs.File.{IsPng, IsFront, joined}
use Rattle.vp_join.specs.Strips.{IsJoined, IsOffence}
use Rattle.vp_join.specs.declared.fault.JoinFault.{JoinFault}
use Rattle.vp_join.specs.declared.fault.JoinFault.TheVariants.{Header, Width, TooTall, Short, TooWide, Differ, Read, Write, TooManyTurns}
use Rattle.vp_join.specs.declared.fault.Offence.TheVariants.{Header as HeaderOffence, Width as WidthOffence, TooTall as TooTallOffence, Short as ShortOffence}

-- an image that is wider than 1,664 dots
abbrev pub too_wide : ℕ → Bool
too_wide width = nat_lt 1664 width

-- bytes are the PNG file of an image: of rows that are together the image's
pub record IsFile (image : Image) (out : List ℕ) : Type 0 where
  pub rows : List (List ℕ)
  pub rows_are : joined rows ≡ image_rows image
  pub png : IsPng image.width image.height rows out

-- an output holds the file of an image more, and nothing more where the image has no row
pub record IsPicture (held holds : Option (List ℕ)) (image : Image) : Type 0 where
  pub out : List ℕ
  pub appended : Appends held holds out
  pub none : image.height ≡ 0 → out ≡ []
  pub file : 0 < image.height → IsFile image out

-- bytes of an image's text came, its header and of its rows whole ones and a part of one, and of its file a front
pub record Begins (text out : List ℕ) : Type 0 where
  pub width : ℕ
  pub height : ℕ
  pub rows : List (List ℕ)
  pub part : List ℕ
  pub text_is : text ≡ header_of width height ++ (joined rows ++ part)
  pub less : length part < row_bytes width
  pub front : IsFront width height rows out

-- an output holds a front more of the file of an image of whose text these bytes came, and nothing where none did
pub record HoldsFront (held holds : Option (List ℕ)) (text : List ℕ) : Type 0 where
  pub out : List ℕ
  pub appended : Appends held holds out
  pub front : ((text ≡ []) × (out ≡ [])) ⊎ Begins text out

-- where both readers tell this text: the file of its joined image and the image's height, or its first offence
-- and nothing, or an image that is too wide and nothing
abbrev pub IsPictured : List ℕ → Option (List ℕ) → Option (List ℕ) → Result ℕ JoinFault → Type 0
IsPictured text held holds (Ok height) =
    (image : Image) × IsJoined text image × (too_wide image.width ≡ false) × (height ≡ image.height)
    × IsPicture held holds image
IsPictured text held holds (Err Header) = IsOffence text HeaderOffence × Appends held holds []
IsPictured text held holds (Err Width) = IsOffence text WidthOffence × Appends held holds []
IsPictured text held holds (Err TooTall) = IsOffence text TooTallOffence × Appends held holds []
IsPictured text held holds (Err Short) = IsOffence text ShortOffence × Appends held holds []
IsPictured text held holds (Err TooWide) =
    (image : Image) × IsJoined text image × (too_wide image.width ≡ true) × Appends held holds []
IsPictured text held holds (Err Differ) = ⊥
IsPictured text held holds (Err Read) = Unit {0}
IsPictured text held holds (Err Write) = Unit {0}
IsPictured text held holds (Err TooManyTurns) = Unit {0}
