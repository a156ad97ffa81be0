-- Images one after the other, as a printer prints them, and the one image with all their rows (netpbm, raw
-- pbm).
use Rattle.std.specs.Prelude.{◌≡◌, ◌≢◌, ℕ, ◌+◌, ◌*◌, ◌%◌, ◌<◌, ◌≤◌, ◌⊎◌, nat_le, Bool, not, ◌&&◌, List, [], ◌∷◌, ◌++◌, length, flat_map}
use Rattle.std.specs.List.{AllByRecursion}
use Rattle.vp_dots.specs.Dots.{dot}
use Rattle.vp_dots.specs.Headers.{header_of}
use Rattle.vp_dots.specs.Images.{Image, row_bytes, row_of}
use Rattle.vp_join.specs.declared.fault.Offence.{Offence}
use Rattle.vp_join.specs.declared.fault.Offence.TheVariants.{Header, Width, TooTall, Short}

-- the greatest number in a header, and the greatest height of a joined image
abbrev pub greatest : ℕ
greatest = 999999999

-- an image in a text: its size in dots, and the bytes of its rows, whose padding bits may have any value
pub record Strip : Type 0 where
  pub width : ℕ
  pub height : ℕ
  pub rows : List ℕ

-- 1 to 9 digits with no zero in front
pub record IsNumber (n : ℕ) : Type 0 where
  pub least : 0 < n
  pub most : n ≤ greatest

-- a strip of this width
pub record IsStrip (width : ℕ) (s : Strip) : Type 0 where
  pub width_is : s.width ≡ width
  pub width_fits : IsNumber s.width
  pub height_fits : IsNumber s.height
  pub length_is : length s.rows ≡ s.height * row_bytes s.width

-- strips of one width
abbrev pub AreStrips : ℕ → List Strip → Type 0
AreStrips width [] = Unit {0}
AreStrips width (s ∷ strips) = IsStrip width s × AreStrips width strips

-- the height of all of them together
abbrev pub height_of : List Strip → ℕ
height_of [] = 0
height_of (s ∷ strips) = s.height + height_of strips

-- the bytes of all their rows, in order
abbrev pub strips_rows : List Strip → List ℕ
strips_rows strips = flat_map (λ s. s.rows) strips

-- their text
abbrev pub strips_text : List Strip → List ℕ
strips_text strips = flat_map (λ s. header_of s.width s.height ++ s.rows) strips

-- a text begins with strips of one width, whose heights add up to no more than the greatest
pub record BeginsWith (width : ℕ) (strips : List Strip) (rest text : List ℕ) : Type 0 where
  pub are : AreStrips width strips
  pub height_fits : height_of strips ≤ greatest
  pub text_is : text ≡ strips_text strips ++ rest

-- the text is strips, and this is the one image with all their rows in order: dot x of row y is that of the
-- bytes
pub record IsJoined (text : List ℕ) (image : Image) : Type 0 where
  pub strips : List Strip
  pub begins : BeginsWith image.width strips [] text
  pub height_is : image.height ≡ height_of strips
  pub dots_are : (x y : ℕ) → x < image.width → y < image.height
      → image.is_black x y ≡ dot (strips_rows strips) (8 * (y * row_bytes image.width) + x)

-- images of one width, of a row or more each
abbrev pub AreImages : ℕ → List Image → Type 0
AreImages width images = AllByRecursion (λ image. (image.width ≡ width) × (0 < image.height)) images

-- the height of all of them together
abbrev pub height_together : List Image → ℕ
height_together [] = 0
height_together (image ∷ images) = image.height + height_together images

-- a text begins with the header of an image of this size
pub record HasHeader (width height : ℕ) (rest text : List ℕ) : Type 0 where
  pub width_fits : IsNumber width
  pub height_fits : IsNumber height
  pub text_is : text ≡ header_of width height ++ rest

-- what stands behind strips of this width and is no more of them: no header begins it
pub record IsNoHeader (text : List ℕ) : Type 0 where
  pub some : text ≢ []
  pub none : (width height : ℕ) (rest : List ℕ) → HasHeader width height rest text → ⊥

-- the header of an image of another width than those before it
pub record IsOther (width : ℕ) (strips : List Strip) (text : List ℕ) : Type 0 where
  pub wide : ℕ
  pub high : ℕ
  pub rest : List ℕ
  pub header : HasHeader wide high rest text
  pub before : strips ≢ []
  pub other : wide ≢ width

-- the header of an image with which they are too tall
pub record IsTooTall (width height : ℕ) (text : List ℕ) : Type 0 where
  pub high : ℕ
  pub rest : List ℕ
  pub header : HasHeader width high rest text
  pub taller : greatest < height + high

-- an image whose rows the end of the text cuts
pub record IsShort (width height : ℕ) (text : List ℕ) : Type 0 where
  pub high : ℕ
  pub rest : List ℕ
  pub header : HasHeader width high rest text
  pub fits : height + high ≤ greatest
  pub shorter : length rest < high * row_bytes width

abbrev pub IsCause : Offence → ℕ → List Strip → List ℕ → Type 0
IsCause Header width strips text = IsNoHeader text
IsCause Width width strips text = IsOther width strips text
IsCause TooTall width strips text = IsTooTall width (height_of strips) text
IsCause Short width strips text = IsShort width (height_of strips) text

-- the first offence of a text that isn't strips, in the order of its bytes
pub record IsOffence (text : List ℕ) (offence : Offence) : Type 0 where
  pub width : ℕ
  pub strips : List Strip
  pub rest : List ℕ
  pub begins : BeginsWith width strips rest text
  pub cause : IsCause offence width strips rest

-- dot d of the bytes of rows is no dot of the image, but past its width
abbrev pub is_padding : ℕ → ℕ → Bool
is_padding width d = nat_le width (d % (8 * row_bytes width))

-- the bytes of rows, with white for what is no dot of the image
abbrev pub without_padding : ℕ → List ℕ → List ℕ
without_padding width rows = row_of (length rows) (λ d. not (is_padding width d) && dot rows d)

-- a text is images that make one image, or it has a first offence
abbrev pub IsDecided : List ℕ → Type 0
IsDecided text = ((image : Image) × IsJoined text image) ⊎ ((offence : Offence) × IsOffence text offence)
