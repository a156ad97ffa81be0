-- What a text tells, byte by byte.
use Rattle.std.specs.Prelude.{ℕ, ◌+◌, ◌-◌, ◌*◌, zero, suc, ◌==◌, nat_le, nat_lt, ◌&&◌, ◌||◌, Bool, List, [], ◌∷◌, ◌++◌, Option, None, Some, if◌then◌else◌}
use Rattle.vp_dots.specs.Images.{row_bytes}
use Rattle.vp_join.specs.Strips.{greatest}
use Rattle.vp_join.specs.declared.fault.Offence.{Offence}
use Rattle.vp_join.specs.declared.fault.Offence.TheVariants.{Header, Width, TooTall, Short}

-- the images so far: their width, which is 0 where there is none, their height together, and the bytes of
-- their rows
pub record Seen : Type 0 where
  pub width : ℕ
  pub height : ℕ
  pub rows : List ℕ

-- the images of a text up to its first offence, if it has one, with the rows of the one that has it
pub record Told : Type 0 where
  pub so : Seen
  pub offence : Option Offence

abbrev pub whole : Seen → Told
whole so = record { so = so; offence = None }

abbrev pub stops : Seen → Offence → Told
stops so offence = record { so = so; offence = Some offence }

-- a number n, and a digit behind it
abbrev pub with_digit : ℕ → ℕ → ℕ
with_digit n b = 10 * n + (b - 48)

-- b is a digit, which makes a number of 1 to 9 digits with no zero in front
abbrev pub continues : ℕ → ℕ → Bool
continues n b = nat_le 48 b && nat_le b 57 && nat_lt 0 (with_digit n b) && nat_le (with_digit n b) greatest

-- the images so far, and one more byte of rows
abbrev pub with_byte : Seen → ℕ → Seen
with_byte so b = record { width = so.width; height = so.height; rows = so.rows ++ b ∷ [] }

-- the images so far have a width, which is another
abbrev pub is_other : ℕ → ℕ → Bool
is_other so w = nat_lt 0 so && (nat_lt so w || nat_lt w so)

-- the images so far, and the header of one more
abbrev pub with_header : Seen → ℕ → ℕ → Seen
with_header so w n = record { width = w; height = so.height + n; rows = so.rows }

abbrev mutual
  -- the text from the start of an image on, behind the images so far
  pub images : Seen → List ℕ → Told
  images so [] = whole so
  images so (a ∷ []) = stops so Header
  images so (a ∷ b ∷ []) = stops so Header
  images so (a ∷ b ∷ c ∷ text) = if a == 80 && b == 52 && c == 10 then width so 0 text else stops so Header

  -- from within the width on, of which n is read: a blank ends it
  pub width : Seen → ℕ → List ℕ → Told
  width so n [] = stops so Header
  width so n (b ∷ text) =
      if continues n b then width so (with_digit n b) text
      else if nat_lt 0 n && b == 32 then height so n 0 text
      else stops so Header

  -- from within the height on, of which n is read: LF ends it
  pub height : Seen → ℕ → ℕ → List ℕ → Told
  height so w n [] = stops so Header
  height so w n (b ∷ text) =
      if continues n b then height so w (with_digit n b) text
      else if nat_lt 0 n && b == 10 then
      (if is_other so.width w then stops so Width
      else if nat_lt greatest (so.height + n) then stops so TooTall
      else rows (with_header so w n) (row_bytes w * n - 1) text)
      else stops so Header

  -- from within the rows on, with n bytes of them behind the next one
  pub rows : Seen → ℕ → List ℕ → Told
  rows so n [] = stops so Short
  rows so zero (b ∷ text) = images (with_byte so b) text
  rows so (suc n) (b ∷ text) = rows (with_byte so b) n text

-- nothing is seen yet
abbrev pub nothing : Seen
nothing = record { width = 0; height = 0; rows = [] }

-- what a text tells from its start
abbrev pub told : List ℕ → Told
told text = images nothing text

-- the bytes of all rows in order, up to the first offence
abbrev pub rows_told : List ℕ → List ℕ
rows_told text = (told text).so.rows
