-- The words that begin lines, in ASCII (technical note 5005, 3).
use Rattle.std.specs.Prelude.{ℕ, List, [], ◌∷◌, if◌then◌else◌}
use Rattle.std.specs.Str.{bytes_eq}
use Rattle.vp_font.specs.declared.keyword.Keyword.{Keyword}
use Rattle.vp_font.specs.declared.keyword.Keyword.TheVariants.{StartFont, BoundingBox, Ascent, Descent, DefaultChar, Chars, StartChar, Encoding, Scalable, Device, Box, Bitmap, EndChar, EndFont, Other}

-- STARTFONT
abbrev pub startfont : List ℕ
startfont = 83 ∷ 84 ∷ 65 ∷ 82 ∷ 84 ∷ 70 ∷ 79 ∷ 78 ∷ 84 ∷ []

-- FONTBOUNDINGBOX
abbrev pub fontboundingbox : List ℕ
fontboundingbox = 70 ∷ 79 ∷ 78 ∷ 84 ∷ 66 ∷ 79 ∷ 85 ∷ 78 ∷ 68 ∷ 73 ∷ 78 ∷ 71 ∷ 66 ∷ 79 ∷ 88 ∷ []

-- FONT_ASCENT
abbrev pub font_ascent : List ℕ
font_ascent = 70 ∷ 79 ∷ 78 ∷ 84 ∷ 95 ∷ 65 ∷ 83 ∷ 67 ∷ 69 ∷ 78 ∷ 84 ∷ []

-- FONT_DESCENT
abbrev pub font_descent : List ℕ
font_descent = 70 ∷ 79 ∷ 78 ∷ 84 ∷ 95 ∷ 68 ∷ 69 ∷ 83 ∷ 67 ∷ 69 ∷ 78 ∷ 84 ∷ []

-- DEFAULT_CHAR
abbrev pub default_char : List ℕ
default_char = 68 ∷ 69 ∷ 70 ∷ 65 ∷ 85 ∷ 76 ∷ 84 ∷ 95 ∷ 67 ∷ 72 ∷ 65 ∷ 82 ∷ []

-- CHARS
abbrev pub chars : List ℕ
chars = 67 ∷ 72 ∷ 65 ∷ 82 ∷ 83 ∷ []

-- STARTCHAR
abbrev pub startchar : List ℕ
startchar = 83 ∷ 84 ∷ 65 ∷ 82 ∷ 84 ∷ 67 ∷ 72 ∷ 65 ∷ 82 ∷ []

-- ENCODING
abbrev pub encoding : List ℕ
encoding = 69 ∷ 78 ∷ 67 ∷ 79 ∷ 68 ∷ 73 ∷ 78 ∷ 71 ∷ []

-- SWIDTH
abbrev pub swidth : List ℕ
swidth = 83 ∷ 87 ∷ 73 ∷ 68 ∷ 84 ∷ 72 ∷ []

-- DWIDTH
abbrev pub dwidth : List ℕ
dwidth = 68 ∷ 87 ∷ 73 ∷ 68 ∷ 84 ∷ 72 ∷ []

-- BBX
abbrev pub bbx : List ℕ
bbx = 66 ∷ 66 ∷ 88 ∷ []

-- BITMAP
abbrev pub bitmap : List ℕ
bitmap = 66 ∷ 73 ∷ 84 ∷ 77 ∷ 65 ∷ 80 ∷ []

-- ENDCHAR
abbrev pub endchar : List ℕ
endchar = 69 ∷ 78 ∷ 68 ∷ 67 ∷ 72 ∷ 65 ∷ 82 ∷ []

-- ENDFONT
abbrev pub endfont : List ℕ
endfont = 69 ∷ 78 ∷ 68 ∷ 70 ∷ 79 ∷ 78 ∷ 84 ∷ []

-- what a line is about that begins with this word; what isn't known is passed
unfoldable pub keyword : List ℕ → Keyword
keyword word =
    if bytes_eq word startfont then StartFont
    else if bytes_eq word fontboundingbox then BoundingBox
    else if bytes_eq word font_ascent then Ascent
    else if bytes_eq word font_descent then Descent
    else if bytes_eq word default_char then DefaultChar
    else if bytes_eq word chars then Chars
    else if bytes_eq word startchar then StartChar
    else if bytes_eq word encoding then Encoding
    else if bytes_eq word swidth then Scalable
    else if bytes_eq word dwidth then Device
    else if bytes_eq word bbx then Box
    else if bytes_eq word bitmap then Bitmap
    else if bytes_eq word endchar then EndChar
    else if bytes_eq word endfont then EndFont
    else Other
