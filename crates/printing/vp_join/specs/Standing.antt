-- Where a reading of images stands.
use Rattle.std.specs.Prelude.{◌≡◌, ℕ, ◌+◌, ◌*◌, ◌<◌, Bool, not, ◌==◌, nat_lt, ◌&&◌, ◌||◌, List, [], ◌∷◌, ◌++◌, take, Result, Ok, Err, Option, Some, None}
use Rattle.vp_dots.specs.Images.{row_bytes}
use Rattle.vp_join.specs.Told.{Seen, images, width, height, rows, Told, stops, told, whole}
use Rattle.vp_join.specs.declared.fault.Offence.{Offence}
use Rattle.vp_join.specs.declared.reading.Phase.{Phase}
use Rattle.vp_join.specs.declared.reading.Phase.TheVariants.{Between, AfterP, After4, InWidth, InHeight, InRows, Stopped}
use Rattle.vp_join.specs.declared.reading.Piece.{Piece}
use Rattle.vp_join.specs.declared.reading.Piece.TheVariants.{Head, Rows}
use Rattle.vp_join.specs.declared.reading.Reading.{Reading}
use Rattle.vp_join.specs.declared.reading.Size.{Size}

-- what a text is from this phase on, behind the images so far
abbrev pub from_phase : Phase → Seen → List ℕ → Told
from_phase Between so text = images so text
from_phase AfterP so text = images so (80 ∷ text)
from_phase After4 so text = images so (80 ∷ 52 ∷ text)
from_phase (InWidth n) so text = width so n text
from_phase (InHeight w n) so text = height so w n text
from_phase (InRows behind) so text = rows so behind text
from_phase (Stopped offence) so text = stops so offence

-- the images so far, where these bytes of their rows were given
abbrev pub so_far : Reading → List ℕ → Seen
so_far s r = record { width = s.width; height = s.height; rows = r }

-- it took the bytes b and gave the rows' bytes r: whatever comes behind b, the whole is decided by that alone
abbrev pub Stands : Reading → List ℕ → List ℕ → Type 0
Stands s b r = (text : List ℕ) → told (b ++ text) ≡ from_phase s.phase (so_far s r) text

-- behind b and r it took more bytes, and they gave some more bytes of rows
pub record HasRead (s : Reading) (b r : List ℕ) : Type 0 where
  pub more : List ℕ
  pub stands : Stands s b (r ++ more)

-- the images so far have another width than this, or are taller together
abbrev pub is_beyond : Reading → Size → Bool
is_beyond s size = nat_lt size.height s.height || (nat_lt 0 s.height && not (s.width == size.width))

-- the answer at the end of b, where the rows' bytes r were given
abbrev pub IsAnswer : Result Size Offence → List ℕ → List ℕ → Type 0
IsAnswer (Ok size) b r = told b ≡ whole (record { width = size.width; height = size.height; rows = r })
IsAnswer (Err offence) b r = (told b).offence ≡ Some offence

-- the offence at which a reading has stopped
abbrev pub offence_in : Phase → Option Offence
offence_in (Stopped offence) = Some offence
offence_in _ = None

-- how many bytes of the image's rows are still to come
abbrev pub left : Phase → ℕ
left (InRows behind) = behind + 1
left _ = 0

-- a width that is read is not 0
abbrev pub IsWide : Phase → Type 0
IsWide (InHeight w n) = 0 < w
IsWide _ = Unit {0}

-- n bytes of rows were given: all of the images so far, but for what is still to come
pub record IsCounted (s : Reading) (n : ℕ) : Type 0 where
  pub count : n + left s.phase ≡ s.height * row_bytes s.width
  pub none : s.width ≡ 0 → s.height ≡ 0

-- what a piece takes of the bytes, and the bytes of rows among them
abbrev pub length_of : Piece → ℕ
length_of Head = 1
length_of (Rows n) = n

abbrev pub rows_in : Piece → List ℕ → List ℕ
rows_in Head bytes = []
rows_in (Rows n) bytes = take n bytes
